pub mod Heads
pub mod Laws
pub mod Layers
pub mod Seen
pub mod Sources
