pub mod Lowest
pub mod Printing
