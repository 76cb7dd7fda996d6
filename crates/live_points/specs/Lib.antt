pub mod Held
pub mod Known
pub mod Learned
pub mod Live
pub mod Listed
pub mod Removed
