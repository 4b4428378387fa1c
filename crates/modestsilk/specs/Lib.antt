pub mod Demand
pub mod Numbers
