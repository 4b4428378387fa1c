pub mod Fields
pub mod Kinds
pub mod Pair
pub mod Record
