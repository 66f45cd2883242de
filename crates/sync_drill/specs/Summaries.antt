-- The summary of a drill, and its text.
use Rattle.std.specs.Prelude.{◌≡◌, ◌+◌, ℕ, true, List, [], ◌∷◌, ◌++◌, length, codes, decimal}
use Rattle.std.specs.List.{concat}
use Rattle.sync_command.specs.Changes.{Change, is_canonical}
use Rattle.sync_command.specs.Maps.{at, stored}
use Rattle.sync_command.specs.Trees.{Holding}
use Rattle.canon_set.specs.Logs.{net}
use Rattle.apply_model.specs.Entries.{rows_of}
use Rattle.refluent.specs.Drawn.{drawn_commands}
use Rattle.refluent.specs.Joints.{Joined, StandsForAll}
use Rattle.pref_list.specs.Ranking.{ranking}
use Rattle.merge_core.specs.FirstMergers.{IsFirstMerger}
use Rattle.transition.specs.Transitions.{transition}
use Rattle.clash_list.specs.ClashLists.{clashes}
use Rattle.sync_drill.specs.BaseTrees.{base_tree}
use Rattle.sync_drill.specs.DrillLogs.{AreLogs}
use Rattle.sync_drill.specs.declared.summary.Summary.{Summary}

-- how many commands the logs have
abbrev pub command_count : List (List Change) → ℕ
command_count [] = 0
command_count (log ∷ logs) = length log + command_count logs

-- how many commands their transitions by a set have
abbrev pub transition_count : Holding → List Change → List (List Change) → ℕ
transition_count t set [] = 0
transition_count t set (log ∷ logs) = length (transition t (net log) set) + transition_count t set logs

-- The numbers of a drill: its logs are the stated ones, they are joined, and the first merger without rules is taken, in
-- the admissible order.
pub record IsSummary (seed logs steps : ℕ) (s : Summary) : Type 0 where
  pub made : List (List Change)
  pub are : AreLogs (at base_tree) seed steps logs made
  pub joint : Joined
  pub stands : StandsForAll joint made
  pub merger : List Change
  pub first : IsFirstMerger (at base_tree) (drawn_commands made) (ranking made []) merger
  pub order : is_canonical merger ≡ true
  pub commands : s.commands ≡ command_count made
  pub drawn : s.drawn ≡ length (drawn_commands made)
  pub clashing : s.clashes ≡ length (clashes joint)
  pub merged : s.merger ≡ length merger
  pub transitions : s.transitions ≡ transition_count (at base_tree) merger made
  pub tree : s.tree ≡ length (rows_of (stored base_tree merger))

-- ---- its text

-- a word that ends with a blank, and a number
abbrev pub number_line : List ℕ → ℕ → List ℕ
number_line word number = word ++ (decimal number ++ codes "\n")

-- `drill SEED LOGS STEPS`
abbrev pub first_line : ℕ → ℕ → ℕ → List ℕ
first_line seed logs steps =
    concat (codes "drill " ∷ decimal seed ∷ codes " " ∷ decimal logs ∷ codes " " ∷ decimal steps ∷ codes "\n" ∷ [])

-- a line for each number
abbrev pub summary_lines : Summary → List ℕ
summary_lines s = concat (
    number_line (codes "commands ") s.commands
    ∷ number_line (codes "drawn ") s.drawn
    ∷ number_line (codes "clashes ") s.clashes
    ∷ number_line (codes "merger ") s.merger
    ∷ number_line (codes "transitions ") s.transitions
    ∷ number_line (codes "tree ") s.tree
    ∷ [])

-- the text is that of the drill's summary
abbrev pub IsDrillText : ℕ → ℕ → ℕ → List ℕ → Type 0
IsDrillText seed logs steps text =
    (s : Summary) × IsSummary seed logs steps s × (text ≡ first_line seed logs steps ++ summary_lines s)
