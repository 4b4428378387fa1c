pub mod Raised
pub mod Placed
pub mod Arm
pub mod Thumb
