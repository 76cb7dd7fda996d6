pub mod Choices
pub mod Laws
pub mod Overlays
pub mod Steps
