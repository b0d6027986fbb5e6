pub mod Place
pub mod Chosen
pub mod Rows
pub mod Places
pub mod Due
pub mod Marked
pub mod Apart
