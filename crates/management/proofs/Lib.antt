mod Turns
mod Standing
mod Writing
