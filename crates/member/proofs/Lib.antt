mod Agreeing
mod Refused
pub mod Sends
