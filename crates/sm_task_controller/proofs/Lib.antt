pub mod Denials
pub mod Spares
