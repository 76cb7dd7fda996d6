pub mod Clients
pub mod Directories
pub mod Failing
pub mod MemDesks
pub mod Moments
pub mod Streams
pub mod Taking
