-- What public contracts rest on.
pub mod Able
pub mod Workers
pub mod Meetings
pub mod Runs
pub mod Tallies
pub mod Turns
pub mod Collecting
pub mod Served
pub mod Playable
-- Internal: the threads of a round.
pub mod Tasks
-- Internal: the opening of a run.
pub mod Dealing
