pub mod Shown
pub mod Elsewhere
