pub mod Lines
pub mod Words
pub mod Requests
pub mod Replies
pub mod Readable
pub mod Machine
pub mod Explained
pub mod Laws
