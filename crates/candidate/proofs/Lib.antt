pub mod Copied
mod Counted
mod Given
mod Noted
mod Refusals
mod Shown
