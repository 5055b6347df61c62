mod Lasts
pub mod Sends
