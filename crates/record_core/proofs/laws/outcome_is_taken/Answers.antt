use Rattle.record_core.proofs.Taken.{outcome_taken}
use Rattle.record_core.proofs.laws.outcome_is_taken.Goals as goal

pub returns : goal.returns
returns c = outcome_taken
