-- What public contracts rest on.
pub mod Calls
pub mod Reports
pub mod Driving
pub mod Handles
