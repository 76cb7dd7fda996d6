pub mod Calls
pub mod Edits
pub mod Format
pub mod Found
pub mod Reading
