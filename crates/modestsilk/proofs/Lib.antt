pub mod Demand
pub mod Written
