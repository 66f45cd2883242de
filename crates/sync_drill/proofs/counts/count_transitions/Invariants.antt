use Rattle.std.proofs.Common.{◌≤◌, length}
use Rattle.sync_drill.proofs.Counting.{IsCountedTo}
use Rattle.sync_drill.proofs.counts.count_transitions.Given as goal

abbrev pub invariant-logs : goal.invariant-logs
invariant-logs l = record {
  within : l.log ≤ length l.joint.sets;
  counted : IsCountedTo l.joint l.merger l.count l.log;
}
