pub mod Cell
pub mod Call
pub mod Handover
