use Rattle.refluent.proofs.Climbing.{Climbs, rest_of}
use Rattle.refluent.proofs.table.find_parent.Given as goal

abbrev pub invariant-above : goal.invariant-above
invariant-above l = Climbs l.claims l.groups l.start l.at

abbrev pub decreases-above : goal.decreases-above
decreases-above l = rest_of l.at
