pub mod Histories
pub mod WordBits
pub mod Choosing
