use Rattle.std.proofs.Common.{rules, ◌≡◌, Err}
use Rattle.record_core.proofs.Operations.{op_cut, op_cut_tree, op_done, op_done_tree, plan_full}
use Rattle.record_core.proofs.recording.record_op.Goals as goal

pub measure-requires : goal.measure-requires
measure-requires g c = plan_full _ _ c.args.version c.args.op.now c.in_ok-steps.steps.items c.deref.result.now c.in_ok-steps.ensures.cause.contents c.in_ok-steps.ensures.known c.deref.ensures.value

pub returns-in_err-record_steps-clause-recorded : goal.returns-in_err-record_steps-clause-recorded
returns-in_err-record_steps-clause-recorded g c =
    let e : c.from_residual-in_err-record_steps.result ≡ Err c.in_err-record_steps.field-0.0 = search rules in
    op_cut _ _ _ _ _ _ c.args.version c.args.number c.args.op.now c.in_ok-steps.steps.items c.deref.result.now c.deref-2.result.now c.args.size.now c.in_ok-next.next _ c.in_err-record_steps.field-0.0 _
    c.in_ok-steps.ensures.cause.contents c.in_ok-next.ensures.cause.contents c.deref.ensures.value c.deref-2.ensures.value c.in_ok-steps.ensures.known c.in_ok-next.ensures.known c.in_err-record_steps.ensures.stops
    c.in_err-record_steps.ensures.recorded e

pub returns-clause-recorded : goal.returns-clause-recorded
returns-clause-recorded g c =
    op_done _ _ _ _ _ _ c.args.version c.args.number c.args.op.now c.in_ok-steps.steps.items c.deref.result.now c.deref-2.result.now c.args.size.now c.in_ok-next.next
    c.in_ok-steps.ensures.cause.contents c.in_ok-next.ensures.cause.contents c.deref.ensures.value c.deref-2.ensures.value c.in_ok-steps.ensures.known c.in_ok-next.ensures.known c.in_ok-record_steps.ensures.recorded

pub returns-in_err-record_steps-clause-tree : goal.returns-in_err-record_steps-clause-tree
returns-in_err-record_steps-clause-tree g c =
    let e : c.from_residual-in_err-record_steps.result ≡ Err c.in_err-record_steps.field-0.0 = search rules in
    op_cut_tree _ _ _ _ c.args.version c.args.number c.args.op.now c.in_ok-steps.steps.items c.deref.result.now c.deref-2.result.now c.args.size.now c.in_ok-next.next _ c.in_err-record_steps.field-0.0 _
    c.in_ok-steps.ensures.cause.contents c.in_ok-next.ensures.cause.contents c.deref.ensures.value c.deref-2.ensures.value c.in_ok-steps.ensures.known c.in_ok-next.ensures.known c.in_err-record_steps.ensures.stops
    c.in_err-record_steps.ensures.tree e

pub returns-clause-tree : goal.returns-clause-tree
returns-clause-tree g c =
    op_done_tree _ _ _ _ c.args.version c.args.number c.args.op.now c.in_ok-steps.steps.items c.deref.result.now c.deref-2.result.now c.args.size.now c.in_ok-next.next
    c.in_ok-steps.ensures.cause.contents c.in_ok-next.ensures.cause.contents c.deref.ensures.value c.deref-2.ensures.value c.in_ok-steps.ensures.known c.in_ok-next.ensures.known c.in_ok-record_steps.ensures.tree
