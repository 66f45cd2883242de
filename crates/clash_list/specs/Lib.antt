pub mod DrawnAt
pub mod ClashLists
pub mod Walks
pub mod WalkStates
