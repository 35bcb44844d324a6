pub mod One
pub mod Turn
