use Rattle.record_core.proofs.Walks.{step_undone, step_unread}
use Rattle.record_core.proofs.walking.record_step.Goals as goal

pub returns-in-Err-clause-recorded : goal.returns-in-Err-clause-recorded
returns-in-Err-clause-recorded g c = step_unread c.args.step.now _ _ _ c.in-Err.fault c.in-Err.ensures.cause.contents

pub returns-in-Err-clause-tree : goal.returns-in-Err-clause-tree
returns-in-Err-clause-tree g c = step_undone c.args.step.now _ _ c.in-Err.fault c.in-Err.ensures.cause.contents
