pub mod Planting
pub mod Walking
pub mod Counting
pub mod Summing
