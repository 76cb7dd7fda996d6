pub mod Calls
pub mod Files
pub mod Room
pub mod Table
