-- What public contracts rest on.
pub mod Queue
pub mod Moves
-- Internal: the rule, and the passes that it begins with.
pub mod Rule
