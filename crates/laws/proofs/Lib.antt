-- Lemmas of the laws.
pub mod PlayedLines
pub mod SurveyRows
pub mod Statuses
pub mod Loads
