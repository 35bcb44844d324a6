pub mod Times
pub mod Verdict
pub mod Judged
pub mod Only
pub mod Givens
