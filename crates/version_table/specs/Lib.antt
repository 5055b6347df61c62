pub mod Held
pub mod Laws
pub mod Marks
pub mod Refusal
pub mod Table
pub mod Whole
