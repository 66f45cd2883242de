use Rattle.std.proofs.Common.{◌≡◌, take}
use Rattle.merge_core.specs.Steering.{at_rules}
use Rattle.merge_core.proofs.steering_rules.rules_of.Given as goal

abbrev pub invariant-commands : goal.invariant-commands
invariant-commands l = l.rules.items ≡ at_rules l.joint.sets (take l.command-index l.commands)
