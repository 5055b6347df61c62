pub mod Calls
pub mod Clients
pub mod Laws
