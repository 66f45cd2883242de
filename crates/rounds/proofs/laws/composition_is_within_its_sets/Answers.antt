use Rattle.rounds.proofs.Within.{composition_within}
use Rattle.rounds.proofs.laws.composition_is_within_its_sets.Goals as goal

pub returns : goal.returns
returns c = composition_within
