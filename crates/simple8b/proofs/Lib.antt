pub mod Tables
pub mod Selecting
pub mod Narrowest
pub mod Packing
pub mod Spelling
pub mod Wide
pub mod Backward
