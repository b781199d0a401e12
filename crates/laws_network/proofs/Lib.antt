pub mod Traced
pub mod TracedLaws
pub mod Overlay
pub mod Apart
pub mod Calls
pub mod Ahead
pub mod Calm
pub mod Lists
pub mod Sound
pub mod Control
pub mod Serving
pub mod Events
pub mod Wherever
pub mod Once
pub mod Onward
pub mod Logged
pub mod Counted
pub mod CountedLaws
pub mod Numbered
pub mod Untraced
pub mod Risen
pub mod Raised
pub mod Finish
pub mod Publishing
pub mod Shown
pub mod GoingOn
pub mod Present
pub mod Behind
pub mod AtServer
pub mod Shade
pub mod Shadow
pub mod Described
pub mod Resting
pub mod Commands
pub mod Slots
pub mod Deliveries
pub mod Reaching
pub mod OfFleet
pub mod FleetSafety
pub mod FleetOnce
pub mod FleetPermits
pub mod Unnamed
pub mod ReadyOwners
pub mod Forwarders
pub mod FleetProgress
pub mod FleetFinish
pub mod FleetOpening
mod Worked
mod Bounds
mod Fair
pub mod Standing
pub mod Reopened
mod Recorded
mod Confirmed
mod Coming
pub mod Begun
mod Executing
mod Opens
mod Plays
mod Again
mod FleetReopens
mod Agents
mod FleetOpens
