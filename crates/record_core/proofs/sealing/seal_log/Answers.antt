use Rattle.std.proofs.Common.{length, subst}
use Rattle.std.specs.Prelude.{option_copied}
use Rattle.std.specs.List.{AllByRecursion}
use Rattle.log_text.specs.Logs.{IsOfVersion}
use Rattle.record_core.specs.Looks.{IsShownWithin}
use Rattle.record_core.proofs.SealedLists.{all_done, prefix_passes, last_undone, one_out}
use Rattle.std.specs.Prelude.{Ok}
use Rattle.record_core.proofs.sealing.seal_log.Goals as goal

pub returns-in-Ok-Done-clause-answer : goal.returns-in-Ok-Done-clause-answer
returns-in-Ok-Done-clause-answer g c log e b =
    all_done log c.args.commands.items c.deref.result.now c.deref-2.result.now c.args.ended c.in_ok-sum.sum (option_copied c.open_command.result) c.in-Ok-Done.field-0 _ e b c.deref.ensures.value c.deref-2.ensures.value c.in_ok-sum.ensures c.open_command.ensures c.in-Ok-Done.field-0-is c.in-Ok-Done.ensures.known

pub returns-in-Ok-Undone-clause-answer : goal.returns-in-Ok-Undone-clause-answer
returns-in-Ok-Undone-clause-answer g c log e b =
    last_undone log c.args.commands.items c.deref.result.now c.deref-2.result.now c.without_last.result.items c.args.ended c.in_ok-sum.sum (option_copied c.open_command.result) c.in-Ok-Undone.field-0 _ e b c.deref.ensures.value c.deref-2.ensures.value c.in_ok-sum.ensures c.open_command.ensures c.in-Ok-Undone.field-0-is c.in-Ok-Undone.ensures.known (c.in-Ok-Undone.ensures.has_last c.in-Ok-Undone.field-0-is) c.without_last.ensures.last

pub returns-in-Ok-Undone-clause-printable : goal.returns-in-Ok-Undone-clause-printable
returns-in-Ok-Undone-clause-printable g c version each =
    let prefix = c.without_last.ensures.prefix in prefix_passes (IsOfVersion version) c.without_last.result.items prefix.0 (subst (AllByRecursion (IsOfVersion version)) prefix.1 each)

pub returns-in-Ok-Out-clause-answer : goal.returns-in-Ok-Out-clause-answer
returns-in-Ok-Out-clause-answer g c log e b =
    one_out log c.args.commands.items c.deref.result.now c.deref-2.result.now c.args.ended c.in_ok-sum.sum (option_copied c.open_command.result) c.in-Ok-Out.field-0 c.in-Ok-Out.place _ c.diverged.result e b c.deref.ensures.value c.deref-2.ensures.value c.in_ok-sum.ensures c.open_command.ensures c.in-Ok-Out.field-0-is c.in-Ok-Out.ensures.known
    (subst (λ found. IsShownWithin (length c.in_ok-sum.sum.touched) (Ok found)) c.in-Ok-Out.field-0-is c.in-Ok-Out.ensures.within) c.diverged.ensures
