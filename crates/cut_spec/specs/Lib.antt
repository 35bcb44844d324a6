pub mod Fate
pub mod Answer
pub mod Left
pub mod Keep
pub mod Cut
pub mod Laid
pub mod Moved
pub mod One
