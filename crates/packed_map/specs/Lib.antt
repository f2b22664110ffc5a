pub mod Entries
pub mod Finding
pub mod Groups
pub mod Parts
