pub mod Rings
pub mod Sides
