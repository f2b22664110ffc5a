-- What public contracts rest on.
pub mod Flash
pub mod Erasing
pub mod GivingUp
pub mod Steps
pub mod Taking
-- Internal: the plain data of a seat and its view, and what a take records.
pub mod Owning
