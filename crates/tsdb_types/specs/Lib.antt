pub mod Columns
pub mod Keys
pub mod Moments
pub mod Names
pub mod Series
pub mod Spelled
pub mod Values
