pub mod Record
pub mod Refusal
pub mod Store
