pub mod Sort
pub mod Field
pub mod Items
