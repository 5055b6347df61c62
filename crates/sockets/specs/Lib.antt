pub mod Halves
pub mod Memory
pub mod Refusal
