pub mod Delete
pub mod View
pub mod Write
