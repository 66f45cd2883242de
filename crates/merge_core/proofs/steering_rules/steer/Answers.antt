use Rattle.std.proofs.Common.{subst}
use Rattle.merge_core.specs.Verdicts.{IsVerdictOf}
use Rattle.merge_core.proofs.RuleSteps.{merger_within, steers}
use Rattle.merge_core.proofs.steering_rules.steer.Goals as goal

pub rules_of-requires : goal.rules_of-requires
rules_of-requires c =
    merger_within c.args.joint.now c.logs-logs.ensures.joint c.args.set.now c.commands.result.now c.commands.ensures.commands (subst (IsVerdictOf c.args.joint.now c.args.set.now) c.in-Merger.is c.in_ok-check.ensures)

pub returns-in_ok-rules_of-in-Merger-clause-rules : goal.returns-in_ok-rules_of-in-Merger-clause-rules
returns-in_ok-rules_of-in-Merger-clause-rules c =
    steers c.args.joint.now c.args.set.now c.commands.result.now c.in_ok-rules_of-in-Merger.field-0.items c.commands.ensures.commands c.commands.ensures.order c.commands.ensures.fitting.fits.one
    (subst (IsVerdictOf c.args.joint.now c.args.set.now) c.in-Merger.is c.in_ok-check.ensures) c.in_ok-rules_of-in-Merger.ensures
