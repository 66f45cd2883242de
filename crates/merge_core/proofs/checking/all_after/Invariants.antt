use Rattle.merge_core.proofs.CheckLoops.{AfterTo}
use Rattle.merge_core.proofs.checking.all_after.Given as goal

abbrev pub invariant-nodes : goal.invariant-nodes
invariant-nodes l = AfterTo l.joint.nodes l.set l.place l.seen.items
