use Rattle.std.proofs.Common.{refl, ◌∷◌, [], ap, arith, length, length-append}
use Rattle.sync_command.specs.Maps.{at}
use Rattle.sync_drill.proofs.Walking.{logs_begin, logs_over, logs_turn}
use Rattle.sync_drill.proofs.logs.make_logs.Goals as goal

pub logs-init : goal.logs-init
logs-init c = record {
  within = omega arith;
  below = c.requires;
  many = ap length c.new-sums.ensures.items;
  walked = logs_begin (at c.args.base.now) c.args.seed c.args.steps c.args.logs _ _ refl c.new-sums.ensures.items;
}

pub logs-preserved : goal.logs-preserved
logs-preserved c = record {
  within = omega arith;
  below = c.in_ok-sum.ensures.below;
  many = omega (arith, ap length c.in_ok-push_sum.ensures, length-append c.logs.sums.items (c.in_ok-sum.sum ∷ []), c.logs.invariant.many);
  walked = logs_turn (at c.args.base.now) c.args.seed c.args.steps c.args.logs _ _ _ _ _ c.logs._log (omega arith) c.logs.invariant.walked c.in_ok-sum.ensures.state c.in_ok-sum.ensures.log c.in_ok-push_sum.ensures;
}

pub returns-clause-logs : goal.returns-clause-logs
returns-clause-logs c = logs_over (at c.args.base.now) c.args.seed c.args.steps c.args.logs _ _ c.logs._log (omega arith) c.logs.invariant.walked
