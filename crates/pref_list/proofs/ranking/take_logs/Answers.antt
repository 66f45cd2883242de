use Rattle.std.proofs.Common.{arith}
use Rattle.pref_list.proofs.Rankings.{logs_more}
use Rattle.pref_list.proofs.ranking.take_logs.Goals as goal

pub logs-preserved : goal.logs-preserved
logs-preserved c = logs_more _ _ _ _ _ _ _ _ _ c.logs.invariant (let n = c.logs-log-end.ensures.logs in omega arith) c.in_ok-take_log.ensures.seen c.in_ok-take_log.ensures.taken
