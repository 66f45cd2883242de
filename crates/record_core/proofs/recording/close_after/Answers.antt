use Rattle.record_core.specs.declared.faults.RecordFault.TheVariants as fault
use Rattle.record_core.proofs.ScriptRuns.{closing_failed}
use Rattle.record_core.proofs.recording.close_after.Goals as goal

pub returns-in-Err-clause-closed : goal.returns-in-Err-clause-closed
returns-in-Err-clause-closed g c = closing_failed c.args.count (fault.OpRefused c.in-OpRefused.number c.in-OpRefused.why) c.args.fault c.in-Err.failed _ _ tt c.in-OpRefused.is c.in-Err.ensures.fault c.in-Err.ensures.contents

pub returns-in-Err-close_log-clause-closed : goal.returns-in-Err-close_log-clause-closed
returns-in-Err-close_log-clause-closed g c = closing_failed c.args.count fault.TooLarge c.args.fault c.in-Err-close_log.failed _ _ tt c.in-TooLarge.is c.in-Err-close_log.ensures.fault c.in-Err-close_log.ensures.contents
