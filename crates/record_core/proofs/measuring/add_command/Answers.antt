use Rattle.std.proofs.Common.{◌∙◌, ap, length}
use Rattle.record_core.proofs.Sizes.{step_adds, step_too_large}
use Rattle.record_core.proofs.measuring.add_command.Goals as goal

pub returns-in-Some-clause-adds : goal.returns-in-Some-clause-adds
returns-in-Some-clause-adds c = step_adds c.args.size c.in-Some.next c.args.command.now _ (ap length (c.as_slice-length.ensures.value ∙ c.in-Ok.ensures)) c.in-Some.ensures

pub returns-clause-adds : goal.returns-clause-adds
returns-clause-adds c = step_too_large c.args.size c.args.command.now _ (ap length (c.as_slice-length.ensures.value ∙ c.in-Ok.ensures)) c.in-None.ensures
