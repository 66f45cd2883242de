use Rattle.std.proofs.Common.{take}
use Rattle.canon_set.specs.Sums.{StandsFor}
use Rattle.record_core.proofs.sealing.sum_of.Given as goal

abbrev pub invariant-commands : goal.invariant-commands
invariant-commands l = StandsFor l.sum (take l.place l.commands)
