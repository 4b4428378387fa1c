pub mod Parts
pub mod Laws
pub mod Halves
pub mod Words
pub mod Rows
