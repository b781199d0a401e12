pub mod Takes
pub mod Serving
pub mod Endings
pub mod CommandLine
