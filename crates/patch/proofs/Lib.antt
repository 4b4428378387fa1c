pub mod Stored
pub mod Answered
pub mod Calls
pub mod Patched
