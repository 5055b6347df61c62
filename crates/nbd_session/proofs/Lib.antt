pub mod Courses
pub mod Cuttings
pub mod Demands
pub mod Endings
pub mod Lawfulness
pub mod Requests
