use Rattle.sync_round.proofs.RoundLaws.{done_law}
use Rattle.sync_round.proofs.laws.trees_without_work_are_their_targets.Goals as goal

pub returns : goal.returns
returns c = done_law
