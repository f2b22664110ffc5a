-- What public contracts rest on.
pub mod Ready
pub mod Told
pub mod Holding
-- Internal: the parts of a write.
pub mod Filling
