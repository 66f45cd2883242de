use Rattle.std.proofs.Common.{◌≡◌}
use Rattle.clash_list.specs.WalkStates.{IsAt, left_of, steps_of}
use Rattle.clash_list.proofs.walk.Walk.next.Given as goal

abbrev pub invariant-groups : goal.invariant-groups
invariant-groups l = record { state : IsAt l.self; left : left_of l.self ≡ left_of l.initial.self }

abbrev pub decreases-groups : goal.decreases-groups
decreases-groups l = steps_of l.self
