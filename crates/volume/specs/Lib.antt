-- What public contracts rest on.
pub mod Correct
pub mod LeavesArray
pub mod Undisturbed
pub mod Volume
pub mod Closing
