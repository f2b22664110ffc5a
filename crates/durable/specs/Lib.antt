-- What public contracts rest on.
pub mod Updates
pub mod Flash
pub mod Commands
pub mod Device
pub mod Promise
pub mod Calls
pub mod Failures
pub mod Retiring
pub mod Runs
pub mod Whole
pub mod Faults
-- How the layer chooses its commands, and what a mount has found: internal.
pub mod Collecting
pub mod Memory
pub mod Next
pub mod Choice
pub mod Spare
pub mod Losses
pub mod Marks
pub mod Candidates
pub mod Mounting
