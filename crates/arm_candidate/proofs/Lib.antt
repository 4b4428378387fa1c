pub mod Dispatch
pub mod Shifts
pub mod Opcodes
