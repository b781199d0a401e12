pub mod Alike
pub mod Plays
pub mod Replays
pub mod Turns
