use Rattle.std.proofs.Common.{◌≡◌}
use Rattle.apply_model.specs.Tables.{any_dir_above}
use Rattle.apply_model.proofs.table.any_dir_above.Given as goal

-- no entry so far gives the parent as a directory
abbrev pub invariant-nodes : goal.invariant-nodes
invariant-nodes l = any_dir_above l.path l.above-iterator ≡ any_dir_above l.path l.initial.above-iterator
