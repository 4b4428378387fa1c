pub mod Candidate
pub mod Taken
