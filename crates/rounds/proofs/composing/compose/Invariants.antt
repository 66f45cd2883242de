use Rattle.std.proofs.Common.{take}
use Rattle.canon_set.specs.Sums.{StandsFor}
use Rattle.rounds.specs.Compositions.{chain_list}
use Rattle.rounds.proofs.composing.compose.Given as goal

abbrev pub invariant-sets : goal.invariant-sets
invariant-sets l = StandsFor l.sum (chain_list (take l.place l.sets))
