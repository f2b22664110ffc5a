-- What public contracts rest on.
pub mod Commands
pub mod Faults
pub mod Loading
pub mod Page
pub mod Trace
-- Internal.
pub mod Cutting
pub mod Drafting
pub mod Parsing
pub mod Stored
pub mod Usual
