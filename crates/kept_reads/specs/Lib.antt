-- What public contracts rest on.
pub mod Sessions
pub mod Published
