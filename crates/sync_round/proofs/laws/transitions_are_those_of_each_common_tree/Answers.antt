use Rattle.sync_round.proofs.RoundLaws.{each_tree_law}
use Rattle.sync_round.proofs.laws.transitions_are_those_of_each_common_tree.Goals as goal

pub returns : goal.returns
returns c = each_tree_law
