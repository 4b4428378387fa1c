pub mod Pieces
pub mod Address
pub mod Answer
pub mod Position
