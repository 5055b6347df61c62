pub mod Control
pub mod Refusal
