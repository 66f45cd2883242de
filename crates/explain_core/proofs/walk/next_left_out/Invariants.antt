use Rattle.std.proofs.Common.{◌≡◌, ◌-◌, length, drop}
use Rattle.refluent.specs.Drawn.{drawn_of}
use Rattle.explain_core.specs.Chains.{without}
use Rattle.explain_core.proofs.walk.next_left_out.Given as goal

abbrev pub invariant-drawn : goal.invariant-drawn
invariant-drawn l = without l.set (drop l.at (drawn_of l.joint.sets)) ≡ without l.set (drop l.initial.at (drawn_of l.joint.sets))

abbrev pub decreases-drawn : goal.decreases-drawn
decreases-drawn l = length l.drawn - l.at
