use Rattle.rounds.proofs.Stopping.{stop_law, stop_once_law}
use Rattle.rounds.proofs.laws.sets_stop_at_one_place.Goals as goal

pub returns-clause-none : goal.returns-clause-none
returns-clause-none c = stop_law

pub returns-clause-once : goal.returns-clause-once
returns-clause-once c = stop_once_law
