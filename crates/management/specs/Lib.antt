pub mod Management
pub mod Orders
pub mod Recording
