pub mod Chosen
pub mod Numbers
pub mod Named
pub mod Eased
mod Floors
pub mod Naming
pub mod Lists
pub mod Marking
pub mod Frames
pub mod Rows
pub mod Begun
pub mod Renumbered
pub mod InForce
pub mod Awaited
pub mod Written
pub mod Settled
pub mod Proposed
pub mod Unknown
