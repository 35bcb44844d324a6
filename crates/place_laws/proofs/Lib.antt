pub mod Finish
pub mod Failed
pub mod Aims
pub mod Exactly
pub mod About
pub mod Record
pub mod Dump
