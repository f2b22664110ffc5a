mod Callers
pub mod Meetings
mod Rereadings
