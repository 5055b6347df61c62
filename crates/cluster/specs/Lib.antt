pub mod Carried
pub mod Commits
pub mod Copies
pub mod Gives
pub mod Pace
pub mod Refusal
