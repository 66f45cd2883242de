use Rattle.std.proofs.Common.{rules, ◌≡◌, Err, arith}
use Rattle.record_core.proofs.Sizes.{adding_done, adding_fails, adding_on, step_full}
use Rattle.record_core.proofs.measuring.add_steps.Goals as goal

pub add_step-requires : goal.add_step-requires
add_step-requires g c = step_full c.args.steps.now c.steps.step-index c.step-item.result _ _ _ _ c.requires c.steps.invariant c.steps-test.true c.step-item.is

pub returns-in_err-next-clause-known : goal.returns-in_err-next-clause-known
returns-in_err-next-clause-known g c =
    let e : c.from_residual.result ≡ Err c.in_err-next.field-0.0 = search rules in
    adding_fails c.args.steps.now c.steps.step-index c.step-item.result _ _ c.in_err-next.field-0.0 _ _ _ c.steps-test.true c.step-item.is c.steps.invariant c.in_err-next.ensures.known e

pub steps-preserved : goal.steps-preserved
steps-preserved g c =
    adding_on _ c.args.steps.now c.steps.step-index _ c.step-item.result _ _ _ _ _ _ (omega arith) c.steps-test.true c.step-item.is c.steps.invariant c.in_ok-next.ensures.cause c.in_ok-next.ensures.known

pub returns-clause-known : goal.returns-clause-known
returns-clause-known g c = adding_done c.args.steps.now c.steps.step-index _ _ _ _ (omega arith) c.steps.invariant
