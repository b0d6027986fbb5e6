pub mod Printing
mod Reading
