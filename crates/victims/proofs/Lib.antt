pub mod Sorting
pub mod Eligible
