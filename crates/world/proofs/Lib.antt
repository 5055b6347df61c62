mod AlikeSteps
mod BeginningSteps
mod CallSteps
mod FeedSteps
mod ForgettingSteps
pub mod Going
pub mod GoingOn
pub mod InnerSteps
mod JoinedSteps
mod JoiningSteps
mod ManagingSteps
mod ReceptionSteps
mod Results
pub mod Sending
mod StoppingSteps
mod TakenSteps
mod TakingSteps
mod TellingSteps
