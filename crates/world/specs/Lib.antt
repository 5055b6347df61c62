pub mod Forgetting
pub mod Joining
pub mod Management
pub mod Reception
pub mod Taking
pub mod Telling
pub mod World
