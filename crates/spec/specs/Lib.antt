pub mod Spec
pub mod Domain
pub mod Kind
pub mod Record
pub mod Refusal
pub mod Shape
pub mod Code
pub mod Props
