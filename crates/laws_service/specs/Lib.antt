pub mod Controlled
pub mod ControlledLaws
