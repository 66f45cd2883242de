use Rattle.merge_core.proofs.ParentPlaces.{ParentsTo}
use Rattle.merge_core.proofs.parents.parents_of.Given as goal

abbrev pub invariant-nodes : goal.invariant-nodes
invariant-nodes l = ParentsTo l.joint.nodes l.place l.parents.items
