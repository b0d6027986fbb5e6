pub mod Verdict
pub mod Code
