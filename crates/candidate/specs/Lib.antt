pub mod Candidate
pub mod Orders
pub mod Copies
