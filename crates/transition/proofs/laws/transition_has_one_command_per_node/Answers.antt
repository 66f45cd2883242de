use Rattle.transition.proofs.TransitionLaws.{one_each-transition}
use Rattle.transition.proofs.laws.transition_has_one_command_per_node.Goals as goal

pub returns : goal.returns
returns c = one_each-transition
