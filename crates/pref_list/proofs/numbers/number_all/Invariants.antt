use Rattle.pref_list.proofs.Numbered.{AllNumbersTo}
use Rattle.pref_list.proofs.numbers.number_all.Given as goal

abbrev pub invariant-logs : goal.invariant-logs
invariant-logs l = AllNumbersTo l.joint.sets l.joint.nodes l.chains.picks.items l.chains.heads.items l.chains.nexts.items l.log l.lists.items
