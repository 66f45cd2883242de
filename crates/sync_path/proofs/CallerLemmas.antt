-- The lemmas for callers. No other file of `proofs/` is meant for them.

-- one node: the test, and what it says
pub use Rattle.sync_path.proofs.Nodes.{same_path_is, same_path_at, same_path_refl, same_path_comm, same_path_decides}
-- the order: of compared nodes, and of the test "comes before"
pub use Rattle.sync_path.proofs.Nodes.{equal_is, from_is_lt, before_is, less_is}
pub use Rattle.sync_path.proofs.Nodes.{before_trans, before_irrefl, before_asym, before_total}
-- a node and its parent
pub use Rattle.sync_path.proofs.Nodes.{parent_before, parent_apart}
pub use Rattle.sync_path.proofs.OrderLaws.{parent_is, parent_none, parent_is_path}
pub use Rattle.sync_path.proofs.Under.{parent_shorter}
-- what is under what, by the test `is_under`
pub use Rattle.sync_path.proofs.Under.{under_parent, under_up, under_down, under_shorter, under_apart}
pub use Rattle.sync_path.proofs.Under.{HasParentUnder, under_split, closed_up, closed_down}
-- the same as a fact, `IsUnder`
pub use Rattle.sync_path.proofs.OrderLaws.{under_is, IsUnder-parent, under_after, contiguous}
-- children: the test, what it says, and counts of those that are full
pub use Rattle.sync_path.proofs.ChildCounts.{child_at, child_is}
pub use Rattle.sync_path.proofs.ChildCounts.{count_same, count_more, count_less}
pub use Rattle.sync_path.proofs.ChildCounts.{count_empty, count_some, count_none, count_low}
-- lists of nodes
pub use Rattle.sync_path.proofs.PathLists.{lists, lists-append, prefixes, under_listed}
-- texts that are read again, and what is read
pub use Rattle.sync_path.proofs.TextLaws.{unescaped_back, unescaped_is, text_back, read_is}
pub use Rattle.sync_path.proofs.Decode.{unescaped_plain}
-- parts between separators
pub use Rattle.sync_path.proofs.Cuts.{parts-some}
-- a buffer that still begins with what it held
pub use Rattle.sync_path.proofs.Texts.{kept_on, kept_more}
-- two tests that pass
pub use Rattle.sync_path.proofs.Under.{both}
