pub mod Course
pub mod InStep
pub mod Receiving
pub mod Refusal
pub mod Sending
