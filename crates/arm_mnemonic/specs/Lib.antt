pub mod Heads
pub mod Stems
