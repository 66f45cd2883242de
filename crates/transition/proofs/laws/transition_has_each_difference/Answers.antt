use Rattle.transition.proofs.TransitionLaws.{transition_at}
use Rattle.transition.proofs.laws.transition_has_each_difference.Goals as goal

pub returns : goal.returns
returns c = transition_at
