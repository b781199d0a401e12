pub mod Searches
mod FreeEntries
mod Controls
pub mod Commands
pub mod Events
pub mod Turns
mod Sends
mod Opening
pub mod FirstPlace
mod Written
mod StayAlike
