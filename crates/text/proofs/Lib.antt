pub mod Wrote
pub mod Puts
pub mod Digits
pub mod Within
pub mod Word
pub mod Packed
pub mod Places
