-- Two passes that meet.
pub mod Meetings
-- The steps of a write, and what a whole write tells of them.
pub mod WritingSteps
pub mod WritingCalls
-- The search for a sector's page, and the reading of a pinned page.
pub mod ReadingSearch
