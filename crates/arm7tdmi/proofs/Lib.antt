pub mod Rotate
pub mod Names
pub mod Rows
pub mod Integers
