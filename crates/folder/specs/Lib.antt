pub mod Chain
pub mod Disks
pub mod Files
pub mod Found
pub mod Names
pub mod Refusal
pub mod Restart
