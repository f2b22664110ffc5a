pub mod Chunks
pub mod Encodings
pub mod Numbers
pub mod Places
