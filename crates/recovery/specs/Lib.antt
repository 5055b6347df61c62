pub mod Candidate
pub mod Choice
pub mod Refusal
