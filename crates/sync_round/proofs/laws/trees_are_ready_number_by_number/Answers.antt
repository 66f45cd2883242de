use Rattle.sync_round.proofs.RoundLaws.{number_law, target_law}
use Rattle.sync_round.proofs.laws.trees_are_ready_number_by_number.Goals as goal

pub returns-clause-target : goal.returns-clause-target
returns-clause-target c = target_law

pub returns-clause-ready : goal.returns-clause-ready
returns-clause-ready c = number_law
