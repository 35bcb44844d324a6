pub mod Members
pub mod Look
pub mod Turns
pub mod Held
