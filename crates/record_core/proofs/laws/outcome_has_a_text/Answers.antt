use Rattle.record_core.proofs.OutcomeTexts.{outcome_log}
use Rattle.record_core.proofs.laws.outcome_has_a_text.Goals as goal

pub returns : goal.returns
returns c = outcome_log
