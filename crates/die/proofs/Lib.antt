pub mod Blocks
pub mod Dies
