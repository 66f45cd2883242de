use Rattle.std.proofs.Common.{◌≡◌, Some}
use Rattle.sync_path.specs.Paths.{Node}
use Rattle.refluent.specs.Joints.{path_at}
use Rattle.explain_core.specs.FirstChains.{first_tree}
use Rattle.explain_core.proofs.Climbing.{UpTo, depth_at}
use Rattle.explain_core.proofs.ways.way_up.Given as goal

abbrev pub invariant-up : goal.invariant-up
invariant-up l = (n : Node) → path_at l.joint.nodes l.place ≡ Some n → UpTo (first_tree l.joint) l.joint.nodes l.set n l.via.items l.at

abbrev pub decreases-up : goal.decreases-up
decreases-up l = depth_at l.joint.nodes l.at
