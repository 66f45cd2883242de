use Rattle.record_core.proofs.OpenTexts.{leaves_closed_log, leaves_open_log}
use Rattle.record_core.proofs.laws.what_is_left_is_an_open_log.Goals as goal

pub returns-clause-cut : goal.returns-clause-cut
returns-clause-cut c = leaves_open_log

pub returns-clause-closed : goal.returns-clause-closed
returns-clause-closed c = leaves_closed_log
