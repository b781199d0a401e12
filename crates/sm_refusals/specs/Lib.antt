pub mod Names
pub mod Openings
pub mod Plans
pub mod Refusals
pub mod Restarts
