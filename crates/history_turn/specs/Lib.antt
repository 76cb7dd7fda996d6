pub mod Histories
pub mod Owned
pub mod Views
pub mod Rule
pub mod Steps
pub mod Passes
pub mod Calls
pub mod Lending
