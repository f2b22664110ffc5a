pub mod Reads
pub mod Search
pub mod Shown
