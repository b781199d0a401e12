mod Lookups
pub mod Audited
pub mod Outgoing
pub mod Told
pub mod Written
