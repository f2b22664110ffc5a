-- What public contracts rest on.
pub mod Digits
pub mod Lanes
pub mod Putting
