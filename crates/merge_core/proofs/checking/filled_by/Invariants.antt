use Rattle.merge_core.specs.Afterwards.{AreFilled}
use Rattle.merge_core.proofs.checking.filled_by.Given as goal

abbrev pub invariant-nodes : goal.invariant-nodes
invariant-nodes l = AreFilled l.parents l.seen l.place l.filled.items
