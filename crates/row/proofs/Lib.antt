pub mod Answers
pub mod Blocks
