pub mod Deliveries
pub mod Playable
pub mod Texts
