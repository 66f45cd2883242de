-- The rules that steer to a set.
use Rattle.std.specs.Prelude.{◌≡◌, List, map}
use Rattle.sync_command.specs.Changes.{Change}
use Rattle.sync_command.specs.Maps.{Store, at}
use Rattle.canon_set.specs.Sets.{canonical}
use Rattle.refluent.specs.CommonTrees.{IsCommonTree}
use Rattle.refluent.specs.Drawn.{drawn_commands}
use Rattle.refluent.specs.Joints.{net_sets}
use Rattle.refluent.specs.Mergers.{IsMerger}
use Rattle.pref_list.specs.declared.rules.Rule.{Rule}
use Rattle.pref_list.specs.declared.rules.Rule.TheVariants.{At}
use Rattle.pref_list.specs.Picks.{log_of}

abbrev pub at_rule : List (List Change) → Change → Rule
at_rule sets c = At (log_of sets c) c.node

-- one `at` rule per command, with the least log that has it
abbrev pub at_rules : List (List Change) → List Change → List Rule
at_rules sets cs = map (at_rule sets) cs

-- one `at` rule per command of a set, in the admissible order
abbrev pub steering_rules : List (List Change) → List Change → List Rule
steering_rules logs cs = at_rules (net_sets logs) (canonical cs)

-- the rules that steer to the set, which is a merger for every common tree
pub record AreSteeringRules (logs : List (List Change)) (set : List Change) (list : List Rule) : Type 0 where
  pub merger : (m : Store) → IsCommonTree m logs → IsMerger (at m) (drawn_commands logs) set
  pub rules : list ≡ steering_rules logs set
