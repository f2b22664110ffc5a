pub mod Buckets
pub mod Permutation
pub mod Victims
