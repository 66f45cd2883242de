-- Rebasing recorded work on the sets of the rounds that were missed.
use Rattle.std.specs.Prelude.{◌≡◌, ℕ, List, [], ◌∷◌, ◌++◌}
use Rattle.sync_command.specs.Changes.{Change}
use Rattle.canon_set.specs.Logs.{net}
use Rattle.canon_set.specs.Sets.{canonical}
use Rattle.refluent.specs.CommonTrees.{least_common_tree}
use Rattle.refluent.specs.Joints.{Joined}
use Rattle.pref_list.specs.Ranking.{ranking}
use Rattle.pref_list.specs.declared.rules.Rule.{Rule}
use Rattle.merge_core.specs.FirstMergers.{IsFirstMergerOf}
use Rattle.transition.specs.Transitions.{IsTransitionOf, transition}
use Rattle.rounds.specs.Compositions.{composition}
use Rattle.rounds.specs.declared.rebasing.Side.{Side}
use Rattle.rounds.specs.declared.rebasing.Side.TheVariants.{Tree, Next}

-- the number of the log that a side's transition is of: the work is log 1, the rounds are log 2
abbrev pub log_number : Side → ℕ
log_number Tree = 1
log_number Next = 2

-- a set is the transition of the side's log to the first merger of the joined logs under the rules
pub record IsRebasedOf (j : Joined) (rules : List Rule) (side : Side) (set : List Change) : Type 0 where
  pub merger : List Change
  pub first : IsFirstMergerOf j rules merger
  pub leads : IsTransitionOf j (log_number side) merger set

-- ---- work and the sets of rounds

-- the recorded work as log 1, and the composition of the sets, in the admissible order, as log 2
abbrev pub rebase_logs : List Change → List (List Change) → List (List Change)
rebase_logs recorded sets = recorded ∷ (canonical (composition sets) ∷ [])

-- the transition of log 1 to a merger, for the live tree
abbrev pub rebased_tree : List Change → List (List Change) → List Change → List Change
rebased_tree recorded sets merger = transition (least_common_tree (rebase_logs recorded sets)) (net recorded) merger

-- the transition of log 2 to a merger, for the next round
abbrev pub rebased_next : List Change → List (List Change) → List Change → List Change
rebased_next recorded sets merger =
    transition (least_common_tree (rebase_logs recorded sets)) (net (canonical (composition sets))) merger

-- ---- a log that is ranked first

-- the net set of a log stands before all else in the ranking
pub record IsRankedFirst (log : List Change) (logs : List (List Change)) (rules : List Rule) : Type 0 where
  pub rest : List Change
  pub is : ranking logs rules ≡ canonical (net log) ++ rest
