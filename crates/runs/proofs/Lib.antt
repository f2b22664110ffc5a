mod Plays
pub mod LogTexts
pub mod DueCollections
mod Rows
mod Deliveries
mod RefusedWrites
pub mod DeliveredAnswers
