pub mod MemberCopy
pub mod Noting
