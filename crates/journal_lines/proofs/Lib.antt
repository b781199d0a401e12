pub mod BodyTexts
pub mod Chains
pub mod LineTexts
pub mod ObjectTexts
pub mod ReadLines
pub mod TornEnds
pub mod WholeLines
