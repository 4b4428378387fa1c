pub mod Lengths
pub mod Named
