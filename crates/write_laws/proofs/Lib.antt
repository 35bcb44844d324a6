pub mod Sums
pub mod Answers
pub mod Judged
pub mod Turns
pub mod Items
pub mod Laid
