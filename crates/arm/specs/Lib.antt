pub mod Fields
pub mod Kinds
