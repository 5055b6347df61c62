pub mod Area
pub mod Fields
pub mod Home
pub mod Places
pub mod Progress
pub mod Refusal
pub mod Superblock
pub mod Version
