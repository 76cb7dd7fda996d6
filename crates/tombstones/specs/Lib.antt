pub mod Ranges
pub mod Covered
pub mod Format
pub mod Kept
pub mod Laws
pub mod Raw
