-- What steering answers.
use Rattle.std.specs.Prelude.{List, ⊤}
use Rattle.sync_command.specs.Changes.{Change}
use Rattle.refluent.specs.Joints.{Joined, StandsForAll}
use Rattle.pref_list.specs.declared.rules.Rule.{Rule}
use Rattle.merge_core.specs.declared.checking.Verdict.TheVariants as verdict
use Rattle.merge_core.specs.declared.steering_rules.SteerFault.{SteerFault}
use Rattle.merge_core.specs.declared.steering_rules.SteerFault.TheVariants.{NotDrawn, DoesNotFit, CanAdd, Memory}
use Rattle.merge_core.specs.Steering.{AreSteeringRules}
use Rattle.merge_core.specs.Verdicts.{IsVerdictOf}

-- the rules that steer to the set, for all logs that the joint stands for
abbrev pub SteerTo : Joined → List Change → List Rule → Type 0
SteerTo j set rules = (logs : List (List Change)) → StandsForAll j logs → AreSteeringRules logs set rules

-- the fault is the verdict, or memory ran out
abbrev pub IsSteerFault : Joined → List Change → SteerFault → Type 0
IsSteerFault j set (NotDrawn path) = IsVerdictOf j set (verdict.NotDrawn path)
IsSteerFault j set (DoesNotFit path) = IsVerdictOf j set (verdict.DoesNotFit path)
IsSteerFault j set (CanAdd log path) = IsVerdictOf j set (verdict.CanAdd log path)
IsSteerFault j set Memory = ⊤
