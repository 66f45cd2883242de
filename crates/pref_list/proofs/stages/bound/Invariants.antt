use Rattle.std.proofs.Common.{◌-◌}
use Rattle.pref_list.proofs.Staging.{Halves}
use Rattle.pref_list.proofs.stages.bound.Given as goal

abbrev pub invariant-halving : goal.invariant-halving
invariant-halving l = Halves l.path l.wide l.commands l.goal l.low l.high

abbrev pub decreases-halving : goal.decreases-halving
decreases-halving l = l.high - l.low
