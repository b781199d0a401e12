pub mod States
pub mod Ongoing
pub mod Settles
pub mod Survivors
pub mod Proposal
pub mod Faults
pub mod Losses
