use Rattle.rounds.proofs.Rebased.{rounds_law}
use Rattle.rounds.proofs.laws.rounds_are_kept.Goals as goal

pub returns : goal.returns
returns c = rounds_law
