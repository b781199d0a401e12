pub mod Control
pub mod ControlLaws
pub mod Driven
pub mod DrivenLaws
pub mod Replicas
