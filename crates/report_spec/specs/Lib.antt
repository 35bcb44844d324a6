pub mod Last
pub mod Notice
pub mod Own
pub mod Tally
pub mod Sum
pub mod Answer
pub mod Dumps
