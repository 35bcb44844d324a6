pub mod Steps
pub mod Answers
pub mod Table
pub mod Goes
pub mod Ahead
pub mod Demand2
