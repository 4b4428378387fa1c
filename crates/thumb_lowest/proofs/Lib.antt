pub mod Branches
pub mod Found
pub mod High
pub mod Low
pub mod Numbers
pub mod Read
pub mod Stack
pub mod Wide
