pub mod Match
pub mod Digits
