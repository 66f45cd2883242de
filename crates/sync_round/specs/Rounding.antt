-- What a round leaves, whatever it answers. Of each tree it may be known or not what it holds.
use Rattle.std.specs.Prelude.{◌≡◌, ◌⊎◌, ◌+◌, ◌<◌, ◌-◌, ℕ, zero, suc, ⊤, List, [], ◌∷◌, None, Result, Ok, Err}
use Rattle.sync_command.specs.Changes.{Change}
use Rattle.sync_command.specs.Maps.{at}
use Rattle.sync_command.specs.Trees.{after}
use Rattle.tree_port.specs.States.{IfTreeKnown, IsCounted, NoneFell, NoneRefused, TreeState, WhereKnown}
use Rattle.resume_apply.specs.Ready.{IsOnItsWay, IsReady, work}
use Rattle.resume_apply.specs.Finishing.{IsPaid, counted_on}
use Rattle.resume_apply.specs.Preparing.{Finds}
use Rattle.resume_apply.specs.declared.faults.ApplyFault.{ApplyFault}
use Rattle.resume_apply.specs.declared.faults.ApplyFault.TheVariants as fault
use Rattle.sync_round.specs.declared.faults.RoundFault.{RoundFault}
use Rattle.sync_round.specs.declared.faults.RoundFault.TheVariants.{Tree, Memory}

-- ---- of each tree by its number

-- P of each tree before and after, by the set of its number; there are as many as sets
abbrev pub EachTree : (List Change → TreeState → TreeState → Type 0) → List (List Change) → List TreeState → List TreeState → Type 0
EachTree P [] [] [] = ⊤
EachTree P (set ∷ sets) (tree ∷ trees) (now ∷ later) = P set tree now × EachTree P sets trees later
EachTree P sets trees later = ⊥

-- the same with a number for each tree, which make the number when added up
abbrev pub AddsUp : (ℕ → List Change → TreeState → TreeState → Type 0) → ℕ → List (List Change) → List TreeState → List TreeState → Type 0
AddsUp P total [] [] [] = total ≡ 0
AddsUp P total (set ∷ sets) (tree ∷ trees) (now ∷ later) = (k : ℕ) × (rest : ℕ) × (total ≡ k + rest) × P k set tree now × AddsUp P rest sets trees later
AddsUp P total sets trees later = ⊥

-- where it is known what the tree holds, it is ready
abbrev pub IsReadyIfKnown : List Change → TreeState → Type 0
IsReadyIfKnown set tree = WhereKnown tree (λ m. IsReady (at m) set)

-- P of the tree at a place, counted from 0, and those before it are ready where they are known
abbrev pub AtPlace : (List Change → TreeState → TreeState → Type 0) → ℕ → List (List Change) → List TreeState → List TreeState → Type 0
AtPlace P zero (set ∷ sets) (tree ∷ trees) (now ∷ later) = P set tree now
AtPlace P (suc place) (set ∷ sets) (tree ∷ trees) (now ∷ later) = IsReadyIfKnown set tree × AtPlace P place sets trees later
AtPlace P place sets trees later = ⊥

-- ---- one tree

-- the tree holds what it held, and no change was counted
pub record IsStill (before now : TreeState) : Type 0 where
  pub contents : now.contents ≡ before.contents
  pub changes : now.counts.changes ≡ before.counts.changes

-- and no call of it was refused
pub record IsUntouched (before now : TreeState) : Type 0 where
  pub still : IsStill before now
  pub quiet : NoneRefused before.counts now.counts

-- a tree that is known was ready, and is on its way to the same target
abbrev pub IsLedOn : List Change → TreeState → TreeState → Type 0
IsLedOn set before now = IfTreeKnown before now (λ m n. IsReady (at m) set × IsOnItsWay set (at m) (at n))

-- the changes that a known tree counted are paid by its work
abbrev pub IsPaidFor : List Change → TreeState → TreeState → Type 0
IsPaidFor set before now = IfTreeKnown before now (λ m n. IsPaid before.counts (work set (at m)) now.counts (work set (at n)))

-- The tree was led to its end by so many changes, and no call of it was refused. One that is known was ready, is the
-- target, and the changes were all its work.
pub record IsAtTarget (changes : ℕ) (set : List Change) (before now : TreeState) : Type 0 where
  pub counted : now.counts.changes ≡ counted_on before.counts.changes changes
  pub quiet : NoneRefused before.counts now.counts
  pub target : IfTreeKnown before now (λ m n. IsReady (at m) set × (at n ≡ after set (at m)) × (changes ≡ work set (at m)))

-- a fault that the look at a tree finds, and no call of it
abbrev pub IsFound : ApplyFault → Type 0
IsFound (fault.Diverged p) = ⊤
IsFound (fault.Blocked p) = ⊤
IsFound fault.Failed = ⊥
IsFound fault.Denied = ⊥
IsFound fault.Memory = ⊥

-- Why a tree is named: it is not ready, as `prepare` finds it where the tree is known, or a call of it was refused, which
-- was counted as what it is. A tree that is known denies nothing.
abbrev pub IsCause : ApplyFault → List Change → TreeState → TreeState → Type 0
IsCause (fault.Diverged p) set before now = WhereKnown before (λ m. Finds set (at m) (Err (fault.Diverged p)))
IsCause (fault.Blocked p) set before now = WhereKnown before (λ m. Finds set (at m) (Err (fault.Blocked p)))
IsCause fault.Failed set before now = IsCounted before.counts.faults now.counts.faults
IsCause fault.Denied set before now = IsCounted before.counts.denials now.counts.denials × (before.contents ≡ None)
IsCause fault.Memory set before now = ⊥

-- ---- the round

-- The tree of the number is named, and those before it are ready. Where it is not, nothing was changed, and no call was
-- refused.
pub record IsStopped (number : ℕ) (why : ApplyFault) (sets : List (List Change)) (before now : List TreeState) : Type 0 where
  pub counted : 0 < number
  pub here : AtPlace (IsCause why) (number - 1) sets before now
  pub untouched : IsFound why → EachTree (λ set. IsUntouched) sets before now

abbrev pub EndsRight : List (List Change) → List TreeState → List TreeState → Result ℕ RoundFault → Type 0
EndsRight sets before now (Ok number) = AddsUp IsAtTarget number sets before now
EndsRight sets before now (Err (Tree number why)) = IsStopped number why sets before now
EndsRight sets before now (Err Memory) = ⊤

-- What a round leaves, whatever it answers: there are as many trees, and no count of one fell; no tree was changed, or each
-- one that is known was ready and is on its way to the same target; and the changes are paid by the work.
pub record Rounds (sets : List (List Change)) (result : Result ℕ RoundFault) (before now : List TreeState) : Type 0 where
  pub later : EachTree (λ set tree next. NoneFell tree.counts next.counts) sets before now
  pub moved : EachTree (λ set. IsStill) sets before now ⊎ EachTree IsLedOn sets before now
  pub paid : EachTree IsPaidFor sets before now
  pub ends : EndsRight sets before now result
