use Rattle.std.proofs.Common.{◌-◌, length}
use Rattle.explain_core.proofs.Finding.{AreFrom}
use Rattle.explain_core.proofs.nexts.nexts_of.Given as goal

abbrev pub invariant-places : goal.invariant-places
invariant-places l = AreFrom l.joint.nodes l.set (length l.joint.nodes - l.done) l.next l.nexts.items
