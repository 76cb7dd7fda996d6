pub mod Booleans
pub mod Coding
pub mod Steps
