pub mod Dumps
pub mod Listed
pub mod PathOrder
pub mod Putting
pub mod Shots
pub mod WholeTrees
