pub mod Calls
pub mod Format
pub mod Lists
pub mod Reading
