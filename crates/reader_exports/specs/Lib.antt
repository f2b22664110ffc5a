pub mod Handles
pub mod Maps
pub mod Searches
pub mod Seekers
