use Rattle.std.proofs.Common.{rules, ◌≡◌, Err, arith}
use Rattle.record_core.proofs.Walks.{can_next, walk_cut, walk_cut_tree, walk_done, walk_done_tree, walk_on}
use Rattle.record_core.proofs.walking.record_steps.Goals as goal

pub record_step-requires : goal.record_step-requires
record_step-requires g c = can_next c.args.steps.now c.steps.step-index c.step-item.result _ _ _ _ c.requires c.steps.invariant c.steps-test.true c.step-item.is

pub returns-in_err-record_step-clause-recorded : goal.returns-in_err-record_step-clause-recorded
returns-in_err-record_step-clause-recorded g c =
    let e : c.from_residual.result ≡ Err c.in_err-record_step.field-0.0 = search rules in
    walk_cut c.args.steps.now c.steps.step-index c.step-item.result _ _ _ _ _ _ c.in_err-record_step.field-0.0 _ c.requires c.steps-test.true c.step-item.is c.steps.invariant
    c.in_err-record_step.ensures.cause c.in_err-record_step.ensures.recorded e

pub returns-in_err-record_step-clause-tree : goal.returns-in_err-record_step-clause-tree
returns-in_err-record_step-clause-tree g c =
    let e : c.from_residual.result ≡ Err c.in_err-record_step.field-0.0 = search rules in
    walk_cut_tree c.args.steps.now c.steps.step-index c.step-item.result _ _ _ _ _ c.in_err-record_step.field-0.0 _ c.requires c.steps-test.true c.step-item.is c.steps.invariant c.in_err-record_step.ensures.tree e

pub steps-preserved : goal.steps-preserved
steps-preserved g c =
    walk_on c.args.steps.now c.steps.step-index _ c.step-item.result _ _ _ _ _ _ (omega arith) c.requires c.steps-test.true c.step-item.is c.steps.invariant
    c.in_ok-record_step.ensures.cause c.in_ok-record_step.ensures.tree c.in_ok-record_step.ensures.recorded

pub returns-clause-recorded : goal.returns-clause-recorded
returns-clause-recorded g c = walk_done c.args.steps.now c.steps.step-index _ _ _ _ (omega arith) c.steps.invariant

pub returns-clause-tree : goal.returns-clause-tree
returns-clause-tree g c = walk_done_tree c.args.steps.now c.steps.step-index _ _ _ _ (omega arith) c.steps.invariant
