pub mod Calls
pub mod Series
pub mod Shards
