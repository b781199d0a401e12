pub mod Alike
pub mod Effects
pub mod Decided
pub mod Told
