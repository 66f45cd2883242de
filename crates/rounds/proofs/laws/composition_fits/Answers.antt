use Rattle.rounds.proofs.Composed.{composition_law}
use Rattle.rounds.proofs.laws.composition_fits.Goals as goal

pub returns : goal.returns
returns c = composition_law
