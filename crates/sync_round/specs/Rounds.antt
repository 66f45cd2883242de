-- Rounds over a list of trees, each with a set of its own to apply. What a tree holds at each path is a holding.
use Rattle.std.specs.Prelude.{◌≡◌, ◌≢◌, ℕ, ◌+◌, false, List, [], ◌∷◌, map, Some, ◌⊎◌}
use Rattle.sync_path.specs.Paths.{Node, same_path}
use Rattle.sync_command.specs.Changes.{Change}
use Rattle.sync_command.specs.Trees.{Holding, command_at, after, result_of}
use Rattle.sync_command.specs.Maps.{Store, at}
use Rattle.canon_set.specs.Logs.{net}
use Rattle.canon_set.specs.Sets.{canonical}
use Rattle.refluent.specs.CommonTrees.{IsCommonTree, least_common_tree}
use Rattle.refluent.specs.Joints.{Joined, StandsForAll}
use Rattle.transition.specs.Transitions.{transition}
use Rattle.resume_apply.specs.Ready.{IsOnItsWay, IsReady, IsStep, work}

-- each tree is ready for the set of its number, and there are as many trees as sets
abbrev pub AreReady : List (List Change) → List Holding → Type 0
AreReady [] [] = Unit {0}
AreReady [] (t ∷ trees) = ⊥
AreReady (set ∷ sets) [] = ⊥
AreReady (set ∷ sets) (t ∷ trees) = IsReady t set × AreReady sets trees

-- the target of each tree
abbrev pub targets : List (List Change) → List Holding → List Holding
targets [] trees = []
targets (set ∷ sets) [] = []
targets (set ∷ sets) (t ∷ trees) = after set t ∷ targets sets trees

-- the work that is left on all the trees
abbrev pub round_work : List (List Change) → List Holding → ℕ
round_work [] trees = 0
round_work (set ∷ sets) [] = 0
round_work (set ∷ sets) (t ∷ trees) = work set t + round_work sets trees

-- each of the other trees is on its way from the one of its number to the target: it is ready with the same target, and
-- holds outside the nodes of its set what that one holds
abbrev pub AreOnTheirWay : List (List Change) → List Holding → List Holding → Type 0
AreOnTheirWay [] [] [] = Unit {0}
AreOnTheirWay (set ∷ sets) (t ∷ trees) (u ∷ others) = IsOnItsWay set t u × AreOnTheirWay sets trees others
AreOnTheirWay sets trees others = ⊥

-- ---- the round of some logs

-- the transition of each log to a merger
abbrev pub transitions : Holding → List (List Change) → List Change → List (List Change)
transitions t logs merger = map (λ log. canonical (transition t (net log) merger)) logs

-- each tree is ready for the transition of the log of its number
abbrev pub IsReadyRound : List (List Change) → List Change → List Holding → Type 0
IsReadyRound logs merger trees = AreReady (transitions (least_common_tree logs) logs merger) trees

-- the results of logs on one tree
abbrev pub results : Holding → List (List Change) → List Holding
results t logs = map {B = Holding} (λ log. result_of t log) logs

-- P of the transitions of the logs that a joint stands for, whatever their common tree
abbrev pub OfRound : Joined → List Change → (List (List Change) → Type 0) → Type 0
OfRound j merger P = (logs : List (List Change)) (m : Store) → StandsForAll j logs → IsCommonTree m logs → P (transitions (at m) logs merger)

-- ---- steps

-- one tree from another by one step of one of the set's commands
pub record IsTreeStep (set : List Change) (t u : Holding) : Type 0 where
  pub node : Node
  pub command : Change
  pub there : command_at set node ≡ Some command
  pub elsewhere : (q : Node) → same_path q node ≡ false → u q ≡ t q
  pub moves : t node ≢ u node
  pub step : IsStep command (t node) (u node)

-- one tree of a list makes a step of its set, and the others stay
abbrev pub IsRoundStep : List (List Change) → List Holding → List Holding → Type 0
IsRoundStep [] trees others = ⊥
IsRoundStep (set ∷ sets) [] others = ⊥
IsRoundStep (set ∷ sets) (t ∷ trees) [] = ⊥
IsRoundStep (set ∷ sets) (t ∷ trees) (u ∷ others) = (IsTreeStep set t u × (trees ≡ others)) ⊎ ((t ≡ u) × IsRoundStep sets trees others)
