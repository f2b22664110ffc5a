-- What the contracts of the steps rest on.
pub mod Views
pub mod World
pub mod Ceded
pub mod Rule
pub mod Plays
pub mod BroomPlays
pub mod Seats
pub mod Forced
-- Internal: how a view is kept, and what a step leaves to the other seats.
pub mod Codes
pub mod Onward
