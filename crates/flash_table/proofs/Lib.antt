pub mod Blocks
pub mod Permissions
pub mod PassSteps
pub mod BroomSteps
pub mod PassResults
pub mod BroomResults
pub mod DealtPasses
