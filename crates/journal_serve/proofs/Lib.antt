mod Appends
pub mod Lines
pub mod Turns
pub mod KnownBytes
pub mod Sessions
pub mod Between
pub mod Exits
pub mod Replays
pub mod StoreSteps
pub mod Fronts
pub mod Resumes
