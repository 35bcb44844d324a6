pub mod About
pub mod Failed
pub mod Faulty
