-- What crates above may cite of the proofs here.
pub use Rattle.tool_words.proofs.FewLogs.{few_logs}
