pub mod Written
pub mod Answer
pub mod Room
