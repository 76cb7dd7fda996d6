pub mod Pairs
pub mod Terms
pub mod Listing
pub mod Searching
pub mod Ready
pub mod Steps
pub mod Making
pub mod Names
