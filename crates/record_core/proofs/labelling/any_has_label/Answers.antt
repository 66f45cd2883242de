use Rattle.record_core.proofs.LabelWalks.{plain_found}
use Rattle.record_core.proofs.labelling.any_has_label.Goals as goal

pub returns-then-branch-clause-known : goal.returns-then-branch-clause-known
returns-then-branch-clause-known g c =
    plain_found _ c.args.steps.now c.steps.step-index c.step-item.result c.in_ok-step_has_label.field-0 _ _ _ c.steps-test.true c.step-item.is c.steps.invariant
    c.in_ok-step_has_label.ensures.cause c.in_ok-step_has_label.ensures.known c.if-branch.true
