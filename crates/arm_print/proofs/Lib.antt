pub mod Whole
pub mod Shown
