pub mod Parts
pub mod Read
pub mod Shown
pub mod Answered
