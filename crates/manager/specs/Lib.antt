pub mod Orders
pub mod Refusal
pub mod Manager
