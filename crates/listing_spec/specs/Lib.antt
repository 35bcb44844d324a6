pub mod Text
pub mod Lays
