-- What public contracts rest on.
pub mod CommandLine
pub mod Session
pub mod Telling
