use Rattle.std.proofs.Common.{◌≡◌, ◌<◌, ◌≤◌, ◌-◌, ◌^◌}
use Rattle.sync_command.specs.Maps.{at}
use Rattle.sync_drill.specs.Draws.{state_after_steps}
use Rattle.sync_drill.specs.Walks.{IsWalked}
use Rattle.sync_drill.proofs.logs.make_log.Given as goal

abbrev pub invariant-steps : goal.invariant-steps
invariant-steps l = record {
  within : l._step ≤ l.steps;
  below : l.state < 2 ^ 31;
  state : state_after_steps (l.steps - l._step) l.state ≡ state_after_steps l.steps l.initial.state;
  walked : IsWalked (at l.base) l.initial.state l.steps l.tree l.sum l.state (l.steps - l._step);
}
