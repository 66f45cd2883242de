use Rattle.std.proofs.Common.{[], ◌∷◌, ◌∙◌}
use Rattle.record_core.specs.declared.faults.RecordFault.TheVariants as fault
use Rattle.record_core.proofs.OneCommand.{at_line, at_start, changed, none_done, one_done, one_refused, refused}
use Rattle.record_core.proofs.stepping.record_command.Goals as goal

pub returns-in_default-clause-recorded : goal.returns-in_default-clause-recorded
returns-in_default-clause-recorded g c = at_start c.args.command.now _ _ fault.Memory

pub returns-in-Err-clause-recorded : goal.returns-in-Err-clause-recorded
returns-in-Err-clause-recorded g c = at_line c.args.command.now _ _ _ _ _ fault.WriteFault (c.deref.ensures.value ∙ c.in-Ok.ensures) c.in-Err.ensures.contents

pub returns-in-Ok-change-clause-recorded : goal.returns-in-Ok-change-clause-recorded
returns-in-Ok-change-clause-recorded g c = changed c.args.command.now _ _ _ _ _ _ _ (c.deref.ensures.value ∙ c.in-Ok.ensures) c.in-Ok-write_line.ensures.contents c.in-Ok-change.ensures.contents

pub returns-in-Err-Failed-clause-recorded : goal.returns-in-Err-Failed-clause-recorded
returns-in-Err-Failed-clause-recorded g c = refused c.args.command.now _ _ _ _ _ _ _ fault.TreeFailed (c.deref.ensures.value ∙ c.in-Ok.ensures) c.in-Ok-write_line.ensures.contents c.in-Err-Failed.ensures.contents

pub returns-clause-recorded : goal.returns-clause-recorded
returns-clause-recorded g c = refused c.args.command.now _ _ _ _ _ _ _ fault.Memory (c.deref.ensures.value ∙ c.in-Ok.ensures) c.in-Ok-write_line.ensures.contents c.in-Err-Memory.ensures.contents

pub returns-in_default-clause-tree : goal.returns-in_default-clause-tree
returns-in_default-clause-tree g c = none_done (c.args.command.now ∷ []) _ fault.Memory

pub returns-in-Err-clause-tree : goal.returns-in-Err-clause-tree
returns-in-Err-clause-tree g c = none_done (c.args.command.now ∷ []) _ fault.WriteFault

pub returns-in-Ok-change-clause-tree : goal.returns-in-Ok-change-clause-tree
returns-in-Ok-change-clause-tree g c = one_done c.args.command.now _ _ _ _ c.in-Ok-change.ensures.contents

pub returns-in-Err-Failed-clause-tree : goal.returns-in-Err-Failed-clause-tree
returns-in-Err-Failed-clause-tree g c = one_refused c.args.command.now _ _ _ fault.TreeFailed c.in-Err-Failed.ensures.contents

pub returns-clause-tree : goal.returns-clause-tree
returns-clause-tree g c = one_refused c.args.command.now _ _ _ fault.Memory c.in-Err-Memory.ensures.contents
