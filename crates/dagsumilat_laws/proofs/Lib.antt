pub mod Unjudged
pub mod Items
pub mod Numbers
pub mod Words
pub mod Tell
