mod Copies
mod Courses
pub mod InStep
mod Marks
mod Taking
mod Written
