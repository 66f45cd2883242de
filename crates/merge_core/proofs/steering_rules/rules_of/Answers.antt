use Rattle.merge_core.proofs.RuleSteps.{has_log}
use Rattle.merge_core.proofs.steering_rules.rules_of.Goals as goal

pub unwrap-log-requires : goal.unwrap-log-requires
unwrap-log-requires c = has_log c.args.joint.now.sets c.args.commands.now c.commands.command-index c.command-item.result c.log_of.result c.requires c.commands-test.true c.command-item.is c.log_of.ensures
