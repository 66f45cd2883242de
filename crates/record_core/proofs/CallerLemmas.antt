-- The lemmas for callers. No other file of `proofs/` is meant for them.

-- a log has one sealed list on a tree at most, and where it has one no node diverges
pub use Rattle.record_core.proofs.SealLaws.{only_one, not_both}
-- a script that is read is of paths and values alone, and its paths have names
pub use Rattle.record_core.proofs.ReadOps.{script_valid}
pub use Rattle.record_core.proofs.OutcomeTexts.{have_names}
-- the commands of an outcome are taken by the tree, and have a text
pub use Rattle.record_core.proofs.Taken.{outcome_taken}
pub use Rattle.record_core.proofs.OutcomeTexts.{outcome_log}
-- what a recording leaves, cut short or closed, is an open log: of a list, and of an outcome's commands
pub use Rattle.record_core.proofs.OpenTexts.{leaves_closed_log, leaves_open_log}
pub use Rattle.record_core.proofs.OutcomeTexts.{outcome_leaves_log, record_leaves_log}
