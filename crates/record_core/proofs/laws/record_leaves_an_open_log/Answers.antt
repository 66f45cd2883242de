use Rattle.record_core.proofs.OpenTexts.{record_leaves}
use Rattle.record_core.proofs.OutcomeTexts.{record_leaves_log}
use Rattle.record_core.proofs.laws.record_leaves_an_open_log.Goals as goal

pub returns-clause-valid : goal.returns-clause-valid
returns-clause-valid c = record_leaves_log

pub returns-clause-taken : goal.returns-clause-taken
returns-clause-taken c = record_leaves
