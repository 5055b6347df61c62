pub mod CallSteps
pub mod Histories
pub mod Items
pub mod LeavingSteps
pub mod Places
