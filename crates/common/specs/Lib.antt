pub mod Bits
pub mod Lists
pub mod Lowest
