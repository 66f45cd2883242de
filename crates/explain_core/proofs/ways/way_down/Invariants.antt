use Rattle.std.proofs.Common.{◌≡◌, Some}
use Rattle.sync_path.specs.Paths.{Node}
use Rattle.refluent.specs.Joints.{path_at}
use Rattle.explain_core.proofs.Climbing.{DownTo, depth_at}
use Rattle.explain_core.proofs.ways.way_down.Given as goal

abbrev pub invariant-down : goal.invariant-down
invariant-down l = (n p : Node) → path_at l.joint.nodes l.place ≡ Some n → path_at l.joint.nodes l.low ≡ Some p → DownTo l.joint.nodes n p l.via.items l.at

abbrev pub decreases-down : goal.decreases-down
decreases-down l = depth_at l.joint.nodes l.at
