pub mod Attempts
pub mod Holds
pub mod Told
