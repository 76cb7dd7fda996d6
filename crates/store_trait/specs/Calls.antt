pub mod Delete
pub mod Entry
pub mod View
pub mod Write
