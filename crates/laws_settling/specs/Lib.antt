pub mod Inheriting
pub mod Ending
pub mod EndingPlays
