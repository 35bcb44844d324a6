pub mod Over
pub mod Field
pub mod Be
pub mod Lent
