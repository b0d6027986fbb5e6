pub mod Build
pub mod Starred
pub mod Sample
pub mod Traps
pub mod Values
pub mod Judging
pub mod Joining
pub mod Joined
