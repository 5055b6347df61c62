pub mod ErrorCode
pub mod Owed
pub mod Reply
