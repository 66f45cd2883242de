use Rattle.pref_list.proofs.Rankings.{RulesTo}
use Rattle.pref_list.proofs.ranking.take_rules.Given as goal

abbrev pub invariant-rules : goal.invariant-rules
invariant-rules l = RulesTo l.joint.sets l.numbers.picks.items l.initial.order.seen.items l.initial.order.picks.items l.order.seen.items l.order.picks.items l.rules l.at
