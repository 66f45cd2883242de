use Rattle.sync_round.proofs.RoundLaws.{results_law}
use Rattle.sync_round.proofs.laws.results_are_ready_for_the_round.Goals as goal

pub returns : goal.returns
returns c = results_law
