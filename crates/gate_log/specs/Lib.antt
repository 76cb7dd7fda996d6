pub mod Calls
pub mod Damage
pub mod Faults
pub mod Following
pub mod Frame
pub mod Log
pub mod Records
pub mod Sum
