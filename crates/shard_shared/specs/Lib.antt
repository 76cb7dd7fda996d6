pub mod Entries
pub mod Reaching
pub mod Told
