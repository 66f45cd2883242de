-- The transition of a log by a merger: what leads from the log's result to that of the merger.
use Rattle.std.specs.Prelude.{◌≡◌, ◌-◌, ℕ, true, ◌||◌, List, [], ◌∷◌, ◌++◌, ◌⊎◌, map, is_some, if◌then◌else◌}
use Rattle.sync_path.specs.Paths.{Node}
use Rattle.sync_command.specs.Values.{same_value}
use Rattle.sync_command.specs.Changes.{Change, inverse}
use Rattle.sync_command.specs.Trees.{Holding, command_at, after, Fits}
use Rattle.sync_command.specs.Maps.{Store, at}
use Rattle.canon_set.specs.Logs.{net}
use Rattle.canon_set.specs.Sets.{canonical}
use Rattle.refluent.specs.Sets.{is_in}
use Rattle.refluent.specs.CommonTrees.{IsAmong, IsCommonTree}
use Rattle.refluent.specs.FirstDisagreements.{log_at}
use Rattle.refluent.specs.Joints.{Joined, StandsForAll}

-- the command at a node from the first holding to the second
abbrev pub change_between : Holding → Holding → Node → Change
change_between u v p = record { node = p; old = u p; new = v p }

-- the commands from the first holding to the second, at those of the nodes at which they differ, one for each node
abbrev pub differences : Holding → Holding → List Node → List Change
differences u v [] = []
differences u v (p ∷ ps) =
    if same_value (u p) (v p) || is_some (command_at (differences u v ps) p) then differences u v ps
    else change_between u v p ∷ differences u v ps

abbrev pub nodes_of : List Change → List Node
nodes_of cs = map (λ c. c.node) cs

-- from the result of a net set to that of a merger, at the nodes that one of the two names
abbrev pub transition : Holding → List Change → List Change → List Change
transition t net merger = differences (after net t) (after merger t) (nodes_of net ++ nodes_of merger)

-- ---- transitions of the logs of a joint

-- a set fits every common tree of the logs
abbrev pub FitsCommonTrees : Joined → List Change → Type 0
FitsCommonTrees j set = (logs : List (List Change)) (m : Store) → StandsForAll j logs → IsCommonTree m logs → Fits (at m) set

-- the transition of a log, counted from 1, whatever the common tree
abbrev pub IsTransitionOf : Joined → ℕ → List Change → List Change → Type 0
IsTransitionOf j log merger set = (logs : List (List Change)) (m : Store) → StandsForAll j logs → IsCommonTree m logs →
    set ≡ canonical (transition (at m) (net (log_at logs (log - 1))) merger)

-- ---- what a transition's commands are made of

-- the command is of the net set of one of the logs
pub record IsNetCommand (logs : List (List Change)) (c : Change) : Type 0 where
  pub log : List Change
  pub among : IsAmong log logs
  pub is : is_in (net log) c ≡ true

-- from the new value of a net command to that of another at the same node
pub record IsBetweenNets (logs : List (List Change)) (c : Change) : Type 0 where
  pub first : Change
  pub second : Change
  pub from : IsNetCommand logs first
  pub to : IsNetCommand logs second
  pub nodes : (first.node ≡ c.node) × (second.node ≡ c.node)
  pub old : c.old ≡ first.new
  pub new : c.new ≡ second.new

-- a net command of a log, the inverse of one, or a command between two
abbrev pub IsMadeOfNets : List (List Change) → Change → Type 0
IsMadeOfNets logs c = IsNetCommand logs c ⊎ (IsNetCommand logs (inverse c) ⊎ IsBetweenNets logs c)
