use Rattle.rounds.proofs.Composed.{follow_law}
use Rattle.rounds.proofs.laws.net_sets_follow_one_another.Goals as goal

pub returns : goal.returns
returns c = follow_law
