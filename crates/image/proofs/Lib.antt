mod Bytes
pub mod Stretches
pub mod Valid
