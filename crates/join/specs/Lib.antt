pub mod Join
pub mod Code
