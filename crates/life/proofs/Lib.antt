mod Admitted
mod Again
mod Anew
mod Answering
mod Beside
mod Chosen
mod Configured
mod Copied
mod Deeds
mod Ending
mod Eras
mod Founding
mod Impostors
mod InStep
mod Joiners
mod Leading
mod Lives
mod Looking
mod Newcomers
mod Orders
mod Outside
mod Owners
pub mod Passing
mod Places
mod Pleas
mod Recovery
pub mod Returning
mod Several
pub mod Starting
mod Stops
mod Waiting
