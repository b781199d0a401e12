pub mod Lines
pub mod Ending
pub mod AnswerLines
pub mod Opening
pub mod BadInput
pub mod Checking
pub mod PlanLines
pub mod EventLines
