pub mod Refusal
pub mod Seats
pub mod Talk
