pub mod Floor
pub mod Laws
pub mod Mask
pub mod Refusal
pub mod Rule
pub mod Seats
pub mod Steps
pub mod Told
