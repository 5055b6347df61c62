pub mod Joiner
