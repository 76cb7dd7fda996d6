pub mod Contents
pub mod Format
pub mod Faults
pub mod Taking
