mod Alike
mod AtRest
mod Beside
mod Driving
pub mod Effects
mod FreeSteps
mod Given
mod Lists
mod LocalSteps
mod Marks
mod PermitLookups
mod Recorded
mod Searches
mod SmallCalls
mod SmallCells
mod Waiting
