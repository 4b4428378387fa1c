pub mod Listings
pub mod Patches
pub mod Addresses
pub mod WorstRuns
