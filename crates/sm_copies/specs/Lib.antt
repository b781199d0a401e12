pub mod Order
pub mod Views
pub mod Counting
pub mod Lists
pub mod Laws
