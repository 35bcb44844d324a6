pub mod Noticed
pub mod Rows
