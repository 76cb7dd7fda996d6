pub mod Words
pub mod Unpacked
