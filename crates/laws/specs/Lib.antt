-- What the laws name.
pub mod Steps
pub mod Rounds
pub mod Brooms
pub mod Sessions
pub mod Blocks
