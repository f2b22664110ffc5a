-- What public contracts rest on.
pub mod Answers
pub mod Streams
pub mod Delivery
pub mod Outcome
