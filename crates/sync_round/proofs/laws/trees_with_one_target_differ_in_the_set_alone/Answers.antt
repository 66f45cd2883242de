use Rattle.sync_round.proofs.RoundLaws.{outside_law}
use Rattle.sync_round.proofs.laws.trees_with_one_target_differ_in_the_set_alone.Goals as goal

pub returns : goal.returns
returns c = outside_law
