pub mod Assignment
pub mod Base
pub mod Laws
pub mod Order
pub mod Request
