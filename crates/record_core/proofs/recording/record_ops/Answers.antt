use Rattle.std.proofs.Common.{rules, ◌≡◌, ◌+◌, Err, arith, refl}
use Rattle.record_core.proofs.ScriptRuns.{before_denied, ops_done, ops_done_tree, ops_stop, ops_stop_tree, script_on}
use Rattle.record_core.proofs.recording.record_ops.Goals as goal

pub returns-in_err-record_op-clause-never_denied : goal.returns-in_err-record_op-clause-never_denied
returns-in_err-record_op-clause-never_denied g c =
    let e : c.from_residual.result ≡ Err c.in_err-record_op.field-0.0 = search rules in
    before_denied c.args.version c.args.script.now c.ops.place _ _ c.in_err-record_op.field-0.0 _ _ _ _ _ c.ops.invariant c.in_err-record_op.ensures.never_denied e

pub returns-in_err-record_op-clause-recorded : goal.returns-in_err-record_op-clause-recorded
returns-in_err-record_op-clause-recorded g c =
    let e : c.from_residual.result ≡ Err c.in_err-record_op.field-0.0 = search rules in
    ops_stop c.args.version c.args.script.now c.ops.place (c.ops.place + 1) c.index-script-place.result _ _ c.record_op.new.size c.record_op.new.size c.in_err-record_op.field-0.0 _ _ _ _ _ _ _ refl c.ops-test.true c.index-script-place.is c.ops.invariant
    c.in_err-record_op.ensures.cause c.in_err-record_op.ensures.size c.in_err-record_op.ensures.recorded e

pub returns-in_err-record_op-clause-tree : goal.returns-in_err-record_op-clause-tree
returns-in_err-record_op-clause-tree g c =
    let e : c.from_residual.result ≡ Err c.in_err-record_op.field-0.0 = search rules in
    ops_stop_tree c.args.version c.args.script.now c.ops.place (c.ops.place + 1) c.index-script-place.result _ _ c.record_op.new.size c.record_op.new.size c.in_err-record_op.field-0.0 _ _ _ _ _ _ refl c.ops-test.true c.index-script-place.is c.ops.invariant
    c.in_err-record_op.ensures.size c.in_err-record_op.ensures.tree e

pub ops-preserved : goal.ops-preserved
ops-preserved g c =
    script_on c.args.version c.args.script.now c.ops.place (c.ops.place + 1) (c.ops.place + 1) c.index-script-place.result _ _ _ _ _ _ _ _ _ (omega arith) refl c.ops-test.true c.index-script-place.is c.ops.invariant
    c.in_ok-record_op.ensures.cause c.in_ok-record_op.ensures.tree c.in_ok-record_op.ensures.recorded

pub returns-clause-recorded : goal.returns-clause-recorded
returns-clause-recorded g c = ops_done c.args.version c.args.script.now c.ops.place _ _ _ _ _ _ c.ops-test.false c.ops.invariant

pub returns-clause-tree : goal.returns-clause-tree
returns-clause-tree g c = ops_done_tree c.args.version c.args.script.now c.ops.place _ _ _ _ _ _ c.ops-test.false c.ops.invariant
