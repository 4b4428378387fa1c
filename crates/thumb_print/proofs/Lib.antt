pub mod Lengths
pub mod Shown
