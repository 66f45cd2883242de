use Rattle.record_core.proofs.ScriptRuns.{script_opened, script_unopened, tree_unopened}
use Rattle.record_core.proofs.recording.record.Goals as goal

pub returns-in-Err-clause-recorded : goal.returns-in-Err-clause-recorded
returns-in-Err-clause-recorded g c = script_unopened c.args.version c.args.script.now c.in-Err.fault _ _ _ c.in-Err.ensures.only c.in-Err.ensures.contents

pub returns-in-Ok-clause-recorded : goal.returns-in-Ok-clause-recorded
returns-in-Ok-clause-recorded g c = script_opened c.args.version c.args.script.now c.record_opened.result _ _ _ _ _ c.in-Ok.ensures.contents c.record_opened.ensures.recorded

pub returns-in-Err-clause-tree : goal.returns-in-Err-clause-tree
returns-in-Err-clause-tree g c = tree_unopened c.args.version c.args.script.now c.in-Err.fault _ c.in-Err.ensures.only
