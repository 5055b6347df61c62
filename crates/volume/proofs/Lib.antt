mod Patches
mod Zeros
