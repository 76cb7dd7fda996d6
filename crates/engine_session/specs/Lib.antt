pub mod Clients
pub mod Devices
pub mod Durable
pub mod Ends
pub mod Serving
pub mod Shells
