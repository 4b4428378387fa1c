pub mod Amount
pub mod Demand
pub mod Pieces
pub mod RegisterList
pub mod Several
pub mod Scratch
