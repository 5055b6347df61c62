pub mod Boxes
pub mod Due
pub mod Posted
