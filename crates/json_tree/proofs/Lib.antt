pub mod Turns
pub mod Trees
