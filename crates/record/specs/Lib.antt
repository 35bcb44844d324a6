pub mod Small
pub mod Stamp
