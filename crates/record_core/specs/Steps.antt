-- The steps of an operation: commands, some of which are still to be read from the tree.
use Rattle.std.specs.Prelude.{◌≡◌, ◌⊎◌, ⊤, false, List, [], ◌∷◌, map, Option, Some, None}
use Rattle.sync_path.specs.Paths.{Node, IsUnder}
use Rattle.sync_command.specs.declared.values.Value.TheVariants.{Empty}
use Rattle.sync_command.specs.Values.{is_empty}
use Rattle.sync_command.specs.Changes.{Change}
use Rattle.sync_command.specs.Maps.{IsTreeMap, Store, at}
use Rattle.sync_command.specs.Trees.{Holding, put}
use Rattle.record_core.specs.declared.steps.Step.{Step}
use Rattle.record_core.specs.declared.steps.Step.TheVariants.{Give, Make, Clear}
use Rattle.record_core.specs.Changing.{CanChange, CanRecord}
use Rattle.record_core.specs.Meanings.{emptied}

-- the command of a step, where the tree holds this
abbrev pub change_of : Holding → Step → Change
change_of t (Give c) = c
change_of t (Make n target) = record { node = target; old = Empty; new = t n }
change_of t (Clear n) = emptied t n

abbrev pub changes_of : Holding → List Step → List Change
changes_of t steps = map (change_of t) steps

-- where a step reads the tree, something is there
abbrev pub IsFull : Holding → Step → Type 0
IsFull t (Give c) = ⊤
IsFull t (Make n target) = is_empty (t n) ≡ false
IsFull t (Clear n) = is_empty (t n) ≡ false

-- where a step reads the tree, the tree u holds what t held
abbrev pub IsSame : Holding → Holding → Step → Type 0
IsSame t u (Give c) = ⊤
IsSame t u (Make n target) = u n ≡ t n
IsSame t u (Clear n) = u n ≡ t n

-- each step reads what t holds, on the result of those before it
abbrev pub AreSteady : Holding → Holding → List Step → Type 0
AreSteady t u [] = ⊤
AreSteady t u (s ∷ ss) = IsFull t s × IsSame t u s × AreSteady t (put u (change_of t s).node (change_of t s).new) ss

-- the step reads a node that is not empty, and its command is one call of the tree
pub record CanStep (t : Holding) (s : Step) : Type 0 where
  pub full : IsFull t s
  pub can : CanChange (change_of t s).old (change_of t s).new t (change_of t s).node

-- the steps can be recorded one after another, each as the tree holds it at the start
pub record CanWalk (m : Store) (steps : List Step) : Type 0 where
  pub tree : IsTreeMap m
  pub can : CanRecord (at m) (changes_of (at m) steps)
  pub steady : AreSteady (at m) (at m) steps

-- the command of a step that was read
abbrev pub IsChangeOf : Holding → Step → Option Change → Type 0
IsChangeOf t s None = ⊥
IsChangeOf t s (Some c) = c ≡ change_of t s

-- the path is the other, or under it
abbrev pub IsAtOrUnder : Node → Node → Type 0
IsAtOrUnder p n = (n ≡ p) ⊎ IsUnder n p
