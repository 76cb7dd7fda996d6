pub mod Rows
pub mod Format
pub mod Faults
pub mod Frame
pub mod Places
pub mod Raw
