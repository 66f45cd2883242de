pub mod Ready
pub mod Faults
pub mod Finishing
pub mod Preparing
