-- Whether a set is a merger, and if not, why.
use Rattle.std.specs.Prelude.{◌≡◌, ◌<◌, ◌⊎◌, ℕ, Bool, false, not, List, ◌∷◌, find, slice_get, Some}
use Rattle.sync_path.specs.Paths.{Node, parent, comes_before}
use Rattle.sync_command.specs.Values.{is_empty, is_dir}
use Rattle.sync_command.specs.Changes.{Change}
use Rattle.sync_command.specs.Trees.{Holding, after, Fits}
use Rattle.sync_command.specs.Maps.{Store, at}
use Rattle.refluent.specs.Sets.{is_in, IsSubset}
use Rattle.refluent.specs.Mergers.{IsMerger}
use Rattle.refluent.specs.CommonTrees.{IsCommonTree, least_common_tree}
use Rattle.refluent.specs.Drawn.{drawn_commands}
use Rattle.refluent.specs.Joints.{Joined, StandsForAll, net_sets}
use Rattle.pref_list.specs.Ranking.{set_of}
use Rattle.merge_core.specs.declared.checking.Verdict.{Verdict}
use Rattle.merge_core.specs.declared.checking.Verdict.TheVariants.{Merger, NotDrawn, DoesNotFit, CanAdd}

-- the logs have no such net command
abbrev pub is_undrawn : List (List Change) → Change → Bool
is_undrawn logs c = not (is_in (drawn_commands logs) c)

-- the node is not empty, and its parent is no directory
abbrev pub IsMisfit : Holding → Node → Type 0
IsMisfit t p = (q : Node) × (parent p ≡ Some q) × (is_empty (t p) ≡ false) × (is_dir (t q) ≡ false)

-- the first such node, in path order
pub record IsFirstMisfit (t : Holding) (p : Node) : Type 0 where
  pub misfit : IsMisfit t p
  pub first : (q : Node) → IsMisfit t q → comes_before q p ≡ false

-- the set has not the command, and fits with it
pub record CanBeAdded (t : Holding) (set : List Change) (c : Change) : Type 0 where
  pub further : is_in set c ≡ false
  pub fits : Fits t (c ∷ set)

-- a place in a net set is before another: in the set of a smaller log, or before it in the same
abbrev pub IsBefore : ℕ → ℕ → ℕ → ℕ → Type 0
IsBefore log place other there = (log < other) ⊎ ((log ≡ other) × (place < there))

-- the first net command that passes, by log and then in the admissible order
pub record IsFirstCommand (sets : List (List Change)) (passes : Change → Type 0) (log place : ℕ) (c : Change) : Type 0 where
  pub there : slice_get (set_of sets log) place ≡ Some c
  pub so : passes c
  pub first : (l i : ℕ) (d : Change) → IsBefore l i log place → slice_get (set_of sets l) i ≡ Some d → passes d → ⊥

-- the first of these that applies: a command of the set is not drawn, and the first one has this node; the set leaves
-- a node not empty whose parent is no directory, and the first one is this; a further drawn command fits with the set,
-- and the first one is of this log and names this node; the set is a merger for every common tree
abbrev pub IsVerdict : List (List Change) → List Change → Verdict → Type 0
IsVerdict logs set (NotDrawn path) = (c : Change) × (find (is_undrawn logs) set ≡ Some c) × (path ≡ c.node)
IsVerdict logs set (DoesNotFit path) = IsSubset set (drawn_commands logs) × IsFirstMisfit (after set (least_common_tree logs)) path
IsVerdict logs set (CanAdd log path) =
    (place : ℕ) × (c : Change) × IsSubset set (drawn_commands logs) × Fits (least_common_tree logs) set
    × IsFirstCommand (net_sets logs) (CanBeAdded (least_common_tree logs) set) log place c × (path ≡ c.node)
IsVerdict logs set Merger = (m : Store) → IsCommonTree m logs → IsMerger (at m) (drawn_commands logs) set

-- the verdict, for all logs that the joint stands for
abbrev pub IsVerdictOf : Joined → List Change → Verdict → Type 0
IsVerdictOf j set verdict = (logs : List (List Change)) → StandsForAll j logs → IsVerdict logs set verdict
