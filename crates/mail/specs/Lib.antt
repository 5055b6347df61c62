pub mod Given
pub mod Letters
