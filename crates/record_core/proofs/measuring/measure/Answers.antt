use Rattle.record_core.proofs.Sizes.{measured, unmeasured}
use Rattle.record_core.proofs.measuring.measure.Goals as goal

pub returns-in-Err-clause-known : goal.returns-in-Err-clause-known
returns-in-Err-clause-known g c = unmeasured _ c.args.steps.now c.args.size c.in-Err.fault c.in-Err.ensures.known

pub returns-in-Ok-clause-known : goal.returns-in-Ok-clause-known
returns-in-Ok-clause-known g c = measured _ c.args.steps.now c.args.size c.in-Ok.next c.within_limits.result c.in-Ok.ensures.known c.within_limits.ensures.limits
