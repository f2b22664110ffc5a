-- What public contracts rest on.
pub mod Orders
pub mod Rounds
pub mod Told
pub mod Merging
pub mod Runs
pub mod Plans
pub mod Lines
pub mod Playing
pub mod Pages
pub mod Answers
