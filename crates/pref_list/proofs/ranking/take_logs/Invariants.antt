use Rattle.pref_list.proofs.Rankings.{LogsTo}
use Rattle.pref_list.proofs.ranking.take_logs.Given as goal

abbrev pub invariant-logs : goal.invariant-logs
invariant-logs l = LogsTo l.joint.sets l.numbers.picks.items l.initial.order.seen.items l.initial.order.picks.items l.order.seen.items l.order.picks.items l.log
