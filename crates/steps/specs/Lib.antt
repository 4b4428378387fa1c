pub mod Steps
pub mod Listed
pub mod Walk
