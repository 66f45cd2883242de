use Rattle.std.proofs.Common.{arith, refl}
use Rattle.sync_command.specs.Maps.{at}
use Rattle.sync_drill.proofs.Walking.{state_begin, state_over, state_turn, walk_begin, walk_over, walk_turn}
use Rattle.sync_drill.proofs.logs.make_log.Goals as goal

pub steps-init : goal.steps-init
steps-init c = record {
  within = omega arith;
  below = c.requires;
  state = state_begin _ _ c.args.steps refl;
  walked = walk_begin c.args.base.now _ _ c.args.steps _ _ refl c.in_ok-tree.ensures c.new-sum.ensures.stands;
}

pub steps-preserved : goal.steps-preserved
steps-preserved c = record {
  within = omega arith;
  below = c.in_ok-step.ensures.below;
  state = state_turn _ _ _ c.steps._step c.args.steps (omega arith) c.in_ok-step.ensures.state c.steps.invariant.state;
  walked = walk_turn (at c.args.base.now) _ c.args.steps _ _ _ _ _ _ c.steps._step (omega arith) c.steps.invariant.walked c.in_ok-step.ensures.state c.in_ok-step.ensures.step;
}

pub returns-clause-state : goal.returns-clause-state
returns-clause-state c = state_over _ _ c.steps._step c.args.steps (omega arith) c.steps.invariant.state

pub returns-clause-log : goal.returns-clause-log
returns-clause-log c = walk_over (at c.args.base.now) _ c.args.steps _ _ _ c.steps._step (omega arith) c.steps.invariant.walked
