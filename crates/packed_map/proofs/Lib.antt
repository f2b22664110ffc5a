pub mod BytesOfWords
pub mod Entries
pub mod Groups
pub mod Parts
pub mod Searches
