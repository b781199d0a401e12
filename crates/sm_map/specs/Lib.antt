pub mod Entry
pub mod History
pub mod Models
pub mod Rule
