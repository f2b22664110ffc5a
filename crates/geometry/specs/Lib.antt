-- What public contracts rest on.
pub mod Sectors
pub mod History
pub mod Limits
pub mod Geometry
pub mod Words
pub mod Greedy
