pub mod Feed
pub mod Answer
pub mod Chopped
