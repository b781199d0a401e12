pub mod Cluster
pub mod ClusterLaws
pub mod ClusterPlays
