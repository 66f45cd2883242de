use Rattle.std.proofs.Common.{◌≡◌, ◌++◌, List, vec_len}
use Rattle.std.specs.Prelude.{map}
use Rattle.sync_path.specs.Paths.{Node}
use Rattle.record_core.specs.declared.steps.Step.TheVariants.{Clear}
use Rattle.record_core.specs.Meanings.{backwards}
use Rattle.record_core.proofs.planning.push_clears.Given as goal

-- the paths that were taken from the end have their steps
abbrev pub invariant-paths : goal.invariant-paths
invariant-paths l = (rest : List Node) × (l.initial.left.items ≡ l.left.items ++ rest) × (l.steps.items ≡ l.initial.steps.items ++ map Clear (backwards rest))

abbrev pub decreases-paths : goal.decreases-paths
decreases-paths l = vec_len l.left
