use Rattle.std.proofs.Common.{refl}
use Rattle.record_core.proofs.ScriptRuns.{script_closed, script_ended, script_unclosed, started, tree_closed, tree_ended, tree_unclosed}
use Rattle.record_core.proofs.recording.record_opened.Goals as goal

pub returns-in-Ok-close_log-clause-recorded : goal.returns-in-Ok-close_log-clause-recorded
returns-in-Ok-close_log-clause-recorded g c =
    script_closed c.args.version c.args.script.now c.new-size.result c.record_ops.new.size _ _ _ _ _ _ (started c.args.version c.new-size.result c.new-size.ensures.commands c.new-size.ensures.bytes) refl
    c.in-Ok.ensures.recorded c.in-Ok-close_log.ensures.contents

pub returns-in-Err-close_log-clause-recorded : goal.returns-in-Err-close_log-clause-recorded
returns-in-Err-close_log-clause-recorded g c =
    script_unclosed c.args.version c.args.script.now c.new-size.result c.record_ops.new.size _ c.in-Err-close_log.fault _ _ _ _ _ (started c.args.version c.new-size.result c.new-size.ensures.commands c.new-size.ensures.bytes) refl
    c.in-Err-close_log.ensures.fault c.in-Ok.ensures.recorded c.in-Err-close_log.ensures.contents

pub returns-in-Err-clause-recorded : goal.returns-in-Err-clause-recorded
returns-in-Err-clause-recorded g c =
    script_ended c.args.version c.args.script.now c.new-size.result c.record_ops.new.size _ c.in-Err.fault c.close_after.result _ _ _ _ _ (started c.args.version c.new-size.result c.new-size.ensures.commands c.new-size.ensures.bytes) refl
    c.in-Err.ensures.recorded c.close_after.ensures.closed

pub returns-in-Ok-close_log-clause-tree : goal.returns-in-Ok-close_log-clause-tree
returns-in-Ok-close_log-clause-tree g c =
    tree_closed c.args.version c.args.script.now c.new-size.result c.record_ops.new.size _ _ _ (started c.args.version c.new-size.result c.new-size.ensures.commands c.new-size.ensures.bytes) refl c.in-Ok.ensures.tree

pub returns-in-Err-close_log-clause-tree : goal.returns-in-Err-close_log-clause-tree
returns-in-Err-close_log-clause-tree g c =
    tree_unclosed c.args.version c.args.script.now c.new-size.result c.record_ops.new.size c.in-Err-close_log.fault _ _ (started c.args.version c.new-size.result c.new-size.ensures.commands c.new-size.ensures.bytes) c.in-Err-close_log.ensures.fault c.in-Ok.ensures.tree

pub returns-in-Err-clause-tree : goal.returns-in-Err-clause-tree
returns-in-Err-clause-tree g c =
    tree_ended c.args.version c.args.script.now c.new-size.result c.record_ops.new.size c.in-Err.fault c.close_after.result _ _ (started c.args.version c.new-size.result c.new-size.ensures.commands c.new-size.ensures.bytes) c.in-Err.ensures.tree c.close_after.ensures.answer
