-- The lemmas for callers. No other file of `proofs/` is meant for them.

-- values: the test of equality and what it says, Empty, directories
pub use Rattle.sync_command.proofs.ValueLemmas.{same_value_is, same_value_at, same_value_refl, same_value_decides}
pub use Rattle.sync_command.proofs.ValueLemmas.{empty_is, full_from_dir, one_full}
-- texts that are read again, and what is read
pub use Rattle.sync_command.proofs.ValueTexts.{text_is_read, read_has_text, same_text}
-- one value changed in a holding
pub use Rattle.sync_command.proofs.TreeLemmas.{put_here, put_apart}
-- trees
pub use Rattle.sync_command.proofs.TreeLemmas.{same_tree, tree-result_of, tree_above}
-- finite maps: what they hold, and which are trees
pub use Rattle.sync_command.proofs.MapLemmas.{at-store, at-stored, same_store, full_store, full_stored}
pub use Rattle.sync_command.proofs.MapLemmas.{kept_put, kept_tree, kept_trees, empty_tree}
pub use Rattle.sync_command.proofs.MapLemmas.{store_of, finite_tree}
-- the command of a list at a node
pub use Rattle.sync_command.proofs.SetLemmas.{command_at-node, here, list_all-at, command_at-apart}
-- the commands that pass a test
pub use Rattle.sync_command.proofs.SetLemmas.{passing, passing-is, command_at-filter, one_each-filter, after-changes}
-- sets that fit, and lists that are taken
pub use Rattle.sync_command.proofs.SetLemmas.{same_fits}
pub use Rattle.sync_command.proofs.CanonicalLists.{fits_takes, takes_fits, result_once}
-- inverses of sets
pub use Rattle.sync_command.proofs.SetLemmas.{command_at-inverse, one_each-inverse, back_again, inverse_fits}
-- the admissible order
pub use Rattle.sync_command.proofs.Orders.{goes_before_irrefl, goes_before_trans, goes_before_total}
pub use Rattle.sync_command.proofs.Orders.{nodes_cmp_total, admissible_cmp_total, admissible_goes_before, admissible_exact}
pub use Rattle.sync_command.proofs.OneCanonicalList.{canonical_unique}
