pub mod Cache
pub mod Cached
pub mod Calls
pub mod Leaving
pub mod Merged
pub mod Sorted
pub mod Staged
pub mod Steps
