-- Lemmas of buffered writes.
pub mod Kept
