-- What public contracts rest on.
pub mod Survey
pub mod Ready
pub mod Once
pub mod Emptying
pub mod Told
pub mod Dead
pub mod Erasing
pub mod Meeting
pub mod Handing
pub mod Loading
-- Internal: the parts of a drain.
pub mod Surveying
pub mod Relocating
