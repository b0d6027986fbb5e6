pub mod Check
pub mod Project
pub mod Code
pub mod Index
