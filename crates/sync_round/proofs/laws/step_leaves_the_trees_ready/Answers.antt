use Rattle.sync_round.proofs.RoundLaws.{round_step}
use Rattle.sync_round.proofs.laws.step_leaves_the_trees_ready.Goals as goal

pub returns : goal.returns
returns c = round_step
