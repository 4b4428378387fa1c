pub mod Names
pub mod Cond
pub mod Alu
pub mod Signed
pub mod Kinds
