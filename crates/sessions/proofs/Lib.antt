mod Answered
mod Histories
pub mod Sends
