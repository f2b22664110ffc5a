-- What public contracts rest on.
pub mod Playing
pub mod Logs
pub mod Texts
pub mod Outputs
pub mod ByWorkers
