pub mod Rows
pub mod Worked
pub mod Pairs
pub mod Addresses
