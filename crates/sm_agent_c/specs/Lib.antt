pub mod Assignment
pub mod Base
pub mod Code
pub mod Copies
pub mod Order
pub mod Request
pub mod Slot
