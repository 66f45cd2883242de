use Rattle.transition.proofs.TransitionLaws.{law_of_each_tree}
use Rattle.transition.proofs.laws.transition_is_that_of_each_common_tree.Goals as goal

pub returns : goal.returns
returns c = law_of_each_tree
