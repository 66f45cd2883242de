pub mod States
pub mod Conditions
pub mod Calls
pub mod InMemory
