use Rattle.rounds.proofs.Rebased.{rest_law}
use Rattle.rounds.proofs.laws.transition_of_a_held_log_is_of_the_others.Goals as goal

pub returns : goal.returns
returns c = rest_law
