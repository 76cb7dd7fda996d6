pub mod ReadIndex
pub mod ReadBlocks
pub mod ReadPoints
pub mod Written
pub mod Writing
pub mod Steps
pub mod Tried
