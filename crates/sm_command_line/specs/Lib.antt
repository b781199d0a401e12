pub mod CommandLine
pub mod Reported
