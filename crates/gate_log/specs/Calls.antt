pub mod Append
pub mod Make
pub mod Read
pub mod Settle
