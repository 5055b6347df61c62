pub mod Cause
pub mod Node
pub mod Place
pub mod Steps
pub mod Tokens
pub mod Waiting
