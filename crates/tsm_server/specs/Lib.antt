pub mod Directories
pub mod Engines
pub mod Outcomes
pub mod Printing
pub mod Seats
pub mod Words
