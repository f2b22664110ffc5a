pub mod Places
pub mod Course
