pub mod Columns
pub mod Filling
pub mod Kinds
pub mod Opening
