pub mod Compositions
pub mod Rebasing
