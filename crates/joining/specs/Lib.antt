pub mod Copying
pub mod Giving
pub mod Rebuilding
pub mod Refusing
pub mod Standing
