pub mod Lists
pub mod Integers
