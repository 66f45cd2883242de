use Rattle.std.proofs.Common.{◌≡◌, List, drop}
use Rattle.sync_path.specs.Paths.{Node}
use Rattle.explain_core.specs.Chains.{is_denied}
use Rattle.explain_core.specs.Demands.{is_met}
use Rattle.explain_core.specs.FirstChains.{first_tree}
use Rattle.explain_core.specs.Reasons.{AreAt}
use Rattle.explain_core.proofs.showing.is_denied.Given as goal

abbrev pub invariant-via : goal.invariant-via
invariant-via l = (xs : List Node) → AreAt l.joint.nodes l.via xs → is_denied (is_met l.demand) (first_tree l.joint) l.set xs ≡ is_denied (is_met l.demand) (first_tree l.joint) l.set (drop l.at xs)
