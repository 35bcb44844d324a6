pub mod Step
pub mod Steps
pub mod Walked
pub mod Answer
