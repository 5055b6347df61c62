pub mod Ends
pub mod Refusal
pub mod Rule
