pub mod Runs
pub mod RunLaws
pub mod Truth
pub mod Renumbers
