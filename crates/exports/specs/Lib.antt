pub mod Holds
pub mod Codes
pub mod Handles
pub mod One
pub mod Shared
pub mod Tallies
pub mod Blocks
pub mod Holding
pub mod Opening
-- Internal: what laws name.
pub mod Small
