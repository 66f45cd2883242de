-- Common trees of logs, and the least of them.
use Rattle.std.specs.Prelude.{◌≡◌, true, false, List, [], ◌∷◌, ◌⊎◌}
use Rattle.sync_path.specs.Paths.{Node}
use Rattle.sync_command.specs.declared.values.Value.{Value}
use Rattle.sync_command.specs.declared.values.Value.TheVariants.{Empty, Dir}
use Rattle.sync_command.specs.Changes.{Change}
use Rattle.sync_command.specs.Trees.{Holding, Takes}
use Rattle.sync_command.specs.Maps.{Store, at, IsTreeMap}
use Rattle.canon_set.specs.Logs.{IsTaken, all_change}
use Rattle.refluent.specs.Needs.{Need, Anything, AnyDirectory, Exactly, need, disagree}

-- the log is one of the logs
abbrev pub IsAmong : List Change → List (List Change) → Type 0
IsAmong log [] = ⊥
IsAmong log (first ∷ logs) = (log ≡ first) ⊎ IsAmong log logs

-- each command of each log changes its node's value
abbrev pub AllChange : List (List Change) → Type 0
AllChange logs = (log : List Change) → IsAmong log logs → all_change log ≡ true

-- each of the logs is taken by some tree
abbrev pub AreTaken : List (List Change) → Type 0
AreTaken logs = (log : List Change) → IsAmong log logs → IsTaken log

-- no two of the logs disagree at any node
abbrev pub Agree : List (List Change) → Type 0
Agree logs =
    (log other : List Change) → IsAmong log logs → IsAmong other logs → (n : Node) → disagree log other n ≡ false

-- a tree that takes each of the logs
pub record IsCommonTree (m : Store) (logs : List (List Change)) : Type 0 where
  pub tree : IsTreeMap m
  pub takes : (log : List Change) → IsAmong log logs → Takes (at m) log

-- some tree takes each of the logs
pub record HasCommonTree (logs : List (List Change)) : Type 0 where
  pub map : Store
  pub common : IsCommonTree map logs

-- ---- the least common tree

-- what two needs that a value meets together come to
abbrev pub both_needs : Need → Need → Need
both_needs Anything m = m
both_needs AnyDirectory Anything = AnyDirectory
both_needs AnyDirectory AnyDirectory = AnyDirectory
both_needs AnyDirectory (Exactly w) = Exactly w
both_needs (Exactly v) m = Exactly v

-- what all the logs need at a node
abbrev pub joint_need : List (List Change) → Node → Need
joint_need [] p = Anything
joint_need (log ∷ logs) p = both_needs (need log p) (joint_need logs p)

-- the least value that meets a need: a directory with the empty label where any will do
abbrev pub least_value : Need → Value
least_value Anything = Empty
least_value AnyDirectory = Dir []
least_value (Exactly v) = v

-- the touched nodes at their first old values, the untouched ones above them as directories with the empty label,
-- and nothing else
abbrev pub least_common_tree : List (List Change) → Holding
least_common_tree logs p = least_value (joint_need logs p)
