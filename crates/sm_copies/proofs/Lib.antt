pub mod Counts
pub mod Lists
pub mod Views
mod Laws
