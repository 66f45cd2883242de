use Rattle.std.proofs.Common.{◌≡◌, ◌++◌, List, vec_len}
use Rattle.sync_path.specs.Paths.{Node}
use Rattle.record_core.specs.Meanings.{backwards}
use Rattle.record_core.proofs.subtrees.push_backwards.Given as goal

-- the paths that were taken from the end are on the stack
abbrev pub invariant-paths : goal.invariant-paths
invariant-paths l = (rest : List Node) × (l.initial.left.items ≡ l.left.items ++ rest) × (l.stack.items ≡ l.initial.stack.items ++ backwards rest)

abbrev pub decreases-paths : goal.decreases-paths
decreases-paths l = vec_len l.left
