mod Again
mod Answering
mod ArmedSteps
mod Blanks
mod Counting
mod Grouping
mod HeldFronts
pub mod Images
mod KeptWrites
mod Ranges
mod Settling
mod Sound
mod SoundCommits
mod SoundLending
mod SoundReads
mod StoreReads
