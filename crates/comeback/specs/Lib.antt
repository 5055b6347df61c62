pub mod Recovering
pub mod Returning
