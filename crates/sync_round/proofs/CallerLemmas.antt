-- What crates above may cite of the proofs here.
-- steps of one tree and of a list of them, and the results of logs
pub use Rattle.sync_round.proofs.RoundLaws.{results_law, each_tree_law, round_step, outside_law, done_law, number_law, target_law, one_transitions, change_transitions}
-- what holds of each tree of a list
pub use Rattle.sync_round.proofs.Trees.{each_more, each_then, adds_each, adds_more, adds_then, at_then}
-- trees of which it is known what they hold
pub use Rattle.sync_round.proofs.KnownRounds.{of_known, one_answer, none_unready}
