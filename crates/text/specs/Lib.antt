pub mod Text
pub mod Wrote
pub mod Puts
pub mod Digits
pub mod Word
