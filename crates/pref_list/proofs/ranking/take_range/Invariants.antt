use Rattle.pref_list.specs.Ranking.{set_of}
use Rattle.pref_list.proofs.Ordering.{TakenTo}
use Rattle.pref_list.proofs.ranking.take_range.Given as goal

abbrev pub invariant-places : goal.invariant-places
invariant-places l = TakenTo l.joint.sets l.numbers.picks.items l.initial.order.seen.items l.initial.order.picks.items l.order.seen.items l.order.picks.items (set_of l.joint.sets l.log) l.from l.place
