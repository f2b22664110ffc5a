pub mod Extents
pub mod Cells
pub mod Counts
pub mod Opened
pub mod Moments
pub mod Done
pub mod Collects
pub mod Known
pub mod Same
pub mod Spares
pub mod Scans
pub mod Kept
pub mod Begun
pub mod Founds
pub mod Frees
pub mod Promises
pub mod Noting
pub mod Reserves
pub mod Subsequences
pub mod Exact
pub mod Retired
mod Losses
mod Counted
mod Telling
mod Whole
mod Unharmed
