-- What the two walks of a round owe: the look at each tree, and then the changes, tree by tree.
use Rattle.std.specs.Prelude.{◌≡◌, ◌-◌, ℕ, ⊤, List, [], ◌∷◌, Result, Ok, Err, slice_index_or}
use Rattle.sync_command.specs.Changes.{Change}
use Rattle.tree_port.specs.States.{NoneFell, NoneRefused, TreeState}
use Rattle.sync_round.specs.Rounding.{EachTree, IsAtTarget, IsCause, IsFound, IsLedOn, IsPaidFor, IsReadyIfKnown, IsStill, Rounds}
use Rattle.sync_round.specs.declared.faults.RoundFault.{RoundFault}
use Rattle.sync_round.specs.declared.faults.RoundFault.TheVariants.{Tree, Memory}

-- the set of a number, counted from 1
abbrev pub set_of : List (List Change) → ℕ → List Change
set_of sets number = slice_index_or sets (number - 1) []

-- there are as many trees as sets, and each one that is known is ready
abbrev pub AreReadyIfKnown : List (List Change) → List TreeState → Type 0
AreReadyIfKnown [] [] = ⊤
AreReadyIfKnown (set ∷ sets) (tree ∷ trees) = IsReadyIfKnown set tree × AreReadyIfKnown sets trees
AreReadyIfKnown sets trees = ⊥

-- ---- the look

-- a tree was looked at, and not changed
pub record IsAsked (before now : TreeState) : Type 0 where
  pub later : NoneFell before.counts now.counts
  pub still : IsStill before now

-- and it is ready, where it is known, and no call of it was refused
pub record IsFoundReady (set : List Change) (before now : TreeState) : Type 0 where
  pub asked : IsAsked before now
  pub quiet : NoneRefused before.counts now.counts
  pub ready : IsReadyIfKnown set before

-- what was found at the tree of the number
abbrev pub LooksRight : {T : Type 0} → ℕ → List Change → TreeState → TreeState → Result T RoundFault → Type 0
LooksRight number set before now (Ok done) = IsFoundReady set before now
LooksRight number set before now (Err (Tree n why)) =
    (n ≡ number) × IsCause why set before now × (IsFound why → NoneRefused before.counts now.counts)
LooksRight number set before now (Err Memory) = ⊤

pub record Looks {T : Type 0} (number : ℕ) (set : List Change) (result : Result T RoundFault) (before now : TreeState) : Type 0 where
  pub asked : IsAsked before now
  pub ends : LooksRight number set before now result

-- all trees are ready, or the round ends here
abbrev pub LooksAtAll : {T : Type 0} → List (List Change) → Result T RoundFault → List TreeState → List TreeState → Type 0
LooksAtAll sets (Ok done) before now = EachTree IsFoundReady sets before now
LooksAtAll sets (Err e) before now = Rounds sets (Err e) before now

-- ---- the changes

-- a tree that was ready, where it is known, is on its way
pub record IsLed (set : List Change) (before now : TreeState) : Type 0 where
  pub later : NoneFell before.counts now.counts
  pub moved : IsLedOn set before now
  pub paid : IsPaidFor set before now

-- where it was led
abbrev pub LeadsRight : ℕ → List Change → TreeState → TreeState → Result ℕ RoundFault → Type 0
LeadsRight number set before now (Ok changes) = IsAtTarget changes set before now
LeadsRight number set before now (Err (Tree n why)) = (n ≡ number) × IsCause why set before now × (IsFound why → ⊥)
LeadsRight number set before now (Err Memory) = ⊤

pub record Leads (number : ℕ) (set : List Change) (result : Result ℕ RoundFault) (before now : TreeState) : Type 0 where
  pub led : IsLed set before now
  pub ends : LeadsRight number set before now result
