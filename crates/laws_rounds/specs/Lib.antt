pub mod Round
pub mod RoundPlays
