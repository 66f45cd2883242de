-- The lemmas for callers. No other file of `proofs/` is meant for them.

-- when a command is applicable, by its node and what is above it
pub use Rattle.apply_model.proofs.Steps.{applicable_is}
-- rows that are a tree, their map, and the rows of a map
pub use Rattle.apply_model.proofs.RowTrees.{rows_tree, rows_back, store_back, tree_rows}
