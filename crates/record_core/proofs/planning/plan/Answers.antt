use Rattle.record_core.proofs.Operations.{plan_labelled, plan_made}
use Rattle.record_core.proofs.planning.plan.Goals as goal

pub returns-then-branch-clause-known : goal.returns-then-branch-clause-known
returns-then-branch-clause-known g c =
    plan_labelled _ _ c.args.version c.args.number c.args.op.now c.in_ok-steps.steps.items c.deref.result.now c.in_ok-is_labelled.field-0 c.in_ok-steps.ensures.cause.contents c.in_ok-steps.ensures.known
    c.in_ok-is_labelled.ensures.known c.deref.ensures.value c.if-branch.true

pub returns-clause-known : goal.returns-clause-known
returns-clause-known g c =
    plan_made _ _ c.args.version c.args.op.now c.in_ok-steps.steps.items c.deref.result.now c.in_ok-is_labelled.field-0 c.in_ok-steps.ensures.cause.contents c.in_ok-steps.ensures.tree c.in_ok-steps.ensures.known
    c.in_ok-is_labelled.ensures.known c.deref.ensures.value c.if-branch.false
