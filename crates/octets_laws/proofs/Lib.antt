pub mod Over
pub mod Rules
pub mod PutRules
pub mod Items
pub mod Be
