-- What crates above may cite of the proofs here.
-- undoing, and a stopped tree
pub use Rattle.rounds.proofs.Undoing.{inverse_at, stopped_law, undo_law}
-- lists in the admissible order, and the net set of the canonical list of a net set, node by node
pub use Rattle.rounds.proofs.Composed.{all_change-canonical, canonical_stays, net_canonical, net_changes}
-- sets one after another, and where they stop
pub use Rattle.rounds.proofs.Composed.{chain_of_nets, composition_law, follow_law}
pub use Rattle.rounds.proofs.Stopping.{chain_append, stop_law, stop_once_law}
pub use Rattle.rounds.proofs.Within.{composition_within}
-- what is ranked first
pub use Rattle.rounds.proofs.Ranked.{first_log_first, held_law, ruled_log_first}
-- rebasing: a common tree of the work and the composition, the two transitions, and where they lead
pub use Rattle.rounds.proofs.Rebased.{on_least, rest_law}
pub use Rattle.rounds.proofs.Rebased.{rebase_change, rebase_common, work_law, rounds_law, tree_law, next_law}
-- what `rebase` gives, as one of the two transitions
pub use Rattle.rounds.proofs.Rebased.{rebased_tree_is, rebased_next_is}
