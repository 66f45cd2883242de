use Rattle.std.proofs.Common.{◌≡◌, ◌<◌, ◌≤◌, ◌-◌, ◌^◌, length}
use Rattle.sync_command.specs.Maps.{at}
use Rattle.sync_drill.proofs.Walking.{AreWalked}
use Rattle.sync_drill.proofs.logs.make_logs.Given as goal

abbrev pub invariant-logs : goal.invariant-logs
invariant-logs l = record {
  within : l._log ≤ l.logs;
  below : l.state < 2 ^ 31;
  many : length l.sums.items ≡ l._log;
  walked : AreWalked (at l.base) l.seed l.steps l.logs l.sums.items l.state (l.logs - l._log);
}
