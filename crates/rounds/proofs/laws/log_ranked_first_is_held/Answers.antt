use Rattle.rounds.proofs.Ranked.{held_law}
use Rattle.rounds.proofs.laws.log_ranked_first_is_held.Goals as goal

pub returns : goal.returns
returns c = held_law
