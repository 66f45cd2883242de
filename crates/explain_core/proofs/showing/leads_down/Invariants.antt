use Rattle.std.proofs.Common.{◌≡◌, ◌<◌, List, Some, length}
use Rattle.sync_path.specs.Paths.{Node}
use Rattle.refluent.specs.Joints.{path_at}
use Rattle.explain_core.specs.Reasons.{AreAt}
use Rattle.explain_core.proofs.Testing.{DownFrom}
use Rattle.explain_core.proofs.showing.leads_down.Given as goal

abbrev pub invariant-via : goal.invariant-via
invariant-via l = record {
  low : l.before < length l.joint.nodes;
  from : (n : Node) (xs : List Node) → path_at l.joint.nodes l.place ≡ Some n → AreAt l.joint.nodes l.via xs → DownFrom l.joint.nodes n xs l.next-index l.before;
}
