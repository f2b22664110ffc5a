pub mod FreshBrooms
pub mod Still
pub mod Answered
pub mod Looks
pub mod Ends
pub mod ArrayLeft
