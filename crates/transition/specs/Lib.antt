pub mod Transitions
pub mod Parts
pub mod Limits
