pub mod Shard
pub mod Laws
pub mod Plays
pub mod Naming
