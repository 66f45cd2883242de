-- The lemmas for callers. No other file of `proofs/` is meant for them.

-- texts that are read again, and what is read
pub use Rattle.log_text.proofs.LogLaws.{log_is, log_back, one_log}
pub use Rattle.log_text.proofs.RowLaws.{snapshot_is, snapshot_back, one_snapshot}
-- what is read can be printed in its version
pub use Rattle.log_text.proofs.LogLaws.{log_of_version, complete_of_version}
pub use Rattle.log_text.proofs.RowLaws.{rows_of_version}
-- a text in pieces: what is complete, and the version
pub use Rattle.log_text.proofs.PieceLemmas.{complete_grows, log_complete}
-- a reader of a log: what was taken, the version, and the faults and the end as those of the whole text
pub use Rattle.log_text.proofs.PieceLemmas.{taken_all, taken_of_log, version_stays, fault_of_whole, IsWholeLog, ended_log}
-- texts of a form of one's own: fields without a mark, lines that are read as what was printed, and what is read
pub use Rattle.log_text.proofs.Fields.{IsClear, path_field, field_clear, clear_both, decimal_digits, digits_field, parts_clear, parts_only}
pub use Rattle.log_text.proofs.FrameLaws.{IsRead, AreRead, IsSound, AreFine, joined, framed_back, framed_is, few_fine, each_fine, space_before}
