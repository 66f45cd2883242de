use Rattle.std.proofs.Common.{ap, sym, ◌∙◌}
use Rattle.log_text.specs.Frame.{ended, end_line}
use Rattle.record_core.specs.declared.faults.RecordFault.TheVariants as fault
use Rattle.record_core.proofs.OneCommand.{closing_refused, closing_unwritten, closes}
use Rattle.record_core.proofs.framing.close_log.Goals as goal

pub returns-in_default-clause-contents : goal.returns-in_default-clause-contents
returns-in_default-clause-contents g c = closing_unwritten c.args.count _ fault.Memory

pub returns-in-Err-clause-contents : goal.returns-in-Err-clause-contents
returns-in-Err-clause-contents g c = closing_refused c.args.count _ _ _ _ fault.WriteFault
    (λ cs few. c.deref.ensures.value ∙ c.in-Ok.ensures ∙ ap (λ k. ended (end_line k)) (sym few)) c.in-Err.ensures.contents

pub returns-clause-contents : goal.returns-clause-contents
returns-clause-contents g c = closes c.args.count _ _ _ _
    (λ cs few. c.deref.ensures.value ∙ c.in-Ok.ensures ∙ ap (λ k. ended (end_line k)) (sym few)) c.in-Ok-write_line.ensures.contents
