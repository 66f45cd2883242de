use Rattle.std.proofs.Common.{◌≡◌, ◌++◌}
use Rattle.std.specs.Prelude.{option_copied}
use Rattle.apply_model.specs.Tables.{full_children}
use Rattle.apply_model.proofs.tree_map.TreeMap.children.Given as goal

-- the children so far, and those of the entries that are left
abbrev pub invariant-nodes : goal.invariant-nodes
invariant-nodes l = l.found.items ++ full_children (option_copied l.above) l.path-iterator ≡ full_children (option_copied l.above) l.initial.path-iterator
