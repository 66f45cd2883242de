use Rattle.record_core.specs.declared.faults.RecordFault.TheVariants as fault
use Rattle.record_core.proofs.OneCommand.{begins, begins_refused}
use Rattle.record_core.proofs.framing.open_log.Goals as goal

pub returns-in-Err-clause-contents : goal.returns-in-Err-clause-contents
returns-in-Err-clause-contents g c = begins_refused c.args.version _ _ _ _ fault.WriteFault c.first_line.ensures c.in-Err.ensures.contents

pub returns-in-Ok-clause-contents : goal.returns-in-Ok-clause-contents
returns-in-Ok-clause-contents g c = begins c.args.version _ _ _ _ c.first_line.ensures c.in-Ok.ensures.contents
