pub mod Row
pub mod Block
