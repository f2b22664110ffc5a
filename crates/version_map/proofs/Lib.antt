pub mod Steps
pub mod Premises
pub mod Kept
