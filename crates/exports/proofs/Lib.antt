pub mod DealtSeats
pub mod CodeMeanings
