pub mod Listing
pub mod Lays
