pub mod Print
pub mod Read
pub mod Run
pub mod Demand
pub mod Candidate
