use Rattle.rounds.proofs.Composed.{canonical_stays}
use Rattle.rounds.proofs.laws.canonical_list_stays.Goals as goal

pub returns : goal.returns
returns c = canonical_stays
