pub mod Rounds
pub mod Faults
pub mod Rounding
pub mod KnownRounds
pub mod Walking
