pub mod Count
pub mod Page
pub mod Code
