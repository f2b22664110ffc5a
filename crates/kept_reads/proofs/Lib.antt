-- Lemmas of reads that are kept.
pub mod Kept
pub mod Shown
