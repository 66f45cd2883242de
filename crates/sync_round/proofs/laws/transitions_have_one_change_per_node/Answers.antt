use Rattle.sync_round.proofs.RoundLaws.{one_transitions, change_transitions}
use Rattle.sync_round.proofs.laws.transitions_have_one_change_per_node.Goals as goal

pub returns-clause-one : goal.returns-clause-one
returns-clause-one c = one_transitions

pub returns-clause-change : goal.returns-clause-change
returns-clause-change c = change_transitions
