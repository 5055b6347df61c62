pub mod Commits
pub mod Groups
pub mod Lending
pub mod Node
pub mod Reads
pub mod Refusal
pub mod Stays
