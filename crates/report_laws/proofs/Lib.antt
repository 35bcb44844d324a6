pub mod Own
pub mod Shown
pub mod Adding
pub mod Faults
pub mod Answers
pub mod Sums
pub mod Ends
pub mod Order
