use Rattle.pref_list.specs.Ranking.{set_of}
use Rattle.pref_list.proofs.Numbered.{NumbersTo}
use Rattle.pref_list.proofs.numbers.number_set.Given as goal

abbrev pub invariant-places : goal.invariant-places
invariant-places l = NumbersTo l.joint.sets l.joint.nodes l.initial.chains.picks.items l.chains.picks.items l.chains.heads.items l.chains.nexts.items (set_of l.joint.sets l.log) l.log l.place l.numbers.items
