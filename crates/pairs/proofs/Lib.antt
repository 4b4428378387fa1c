pub mod Halves
pub mod Printing
pub mod Reading
pub mod Runs
pub mod Demand
