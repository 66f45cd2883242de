pub mod Draws
pub mod BaseTrees
pub mod DrillLogs
pub mod Walks
pub mod Summaries
