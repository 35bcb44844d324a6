pub mod Fields
pub mod Good
pub mod Sort
pub mod There
pub mod Width
pub mod Items
