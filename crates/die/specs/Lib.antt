-- What public contracts rest on.
pub mod Pages
pub mod Die
-- How the die keeps its pages: internal.
pub mod Storage
