pub mod Objects
pub mod Lines
pub mod Journal
pub mod Reading
