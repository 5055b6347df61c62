mod Asks
mod Copies
mod Lent
mod Orders
pub mod Sends
