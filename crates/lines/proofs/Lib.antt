pub mod Registers
pub mod Positions
pub mod Lengths
pub mod Address
pub mod Whole
pub mod Named
