pub mod Adopt
pub mod Open
pub mod WriteAt
