pub mod Times
pub mod Reading
