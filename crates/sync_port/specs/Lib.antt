pub mod States
pub mod Faults
pub mod Ports
pub mod Whole
pub mod Sending
pub mod Entries
pub mod InMemory
