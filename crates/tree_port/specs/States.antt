-- What is known of a live tree, and its counts.
use Rattle.std.specs.Prelude.{◌≡◌, ◌≤◌, ⊤, ℕ, Option, None, Some, Result, OnOk, IsErrOf}
use Rattle.sync_port.specs.States.{IfBoth, next_number}
use Rattle.sync_command.specs.Maps.{Store}
use Rattle.tree_port.specs.declared.faults.TreeFault.{TreeFault}
use Rattle.tree_port.specs.declared.faults.TreeFault.TheVariants.{Failed, Denied, Memory}

-- how many calls failed, were denied and ran out of memory, and how many changing calls were done;
-- each up to u64's last value
pub record Counts : Type 0 where
  pub faults : ℕ
  pub denials : ℕ
  pub out_of_memory : ℕ
  pub changes : ℕ

-- what the tree holds, where it is known, and its counts
pub record TreeState : Type 0 where
  pub contents : Option Store
  pub counts : Counts

-- nothing is known but the counts
abbrev pub unknown_tree : Counts → TreeState
unknown_tree counts = record { contents = None; counts = counts }

-- P holds of what the tree holds, where that is known
abbrev pub IfHeld : Option Store → (Store → Type 0) → Type 0
IfHeld None P = ⊤
IfHeld (Some m) P = P m

abbrev pub WhereKnown : TreeState → (Store → Type 0) → Type 0
WhereKnown state P = IfHeld state.contents P

-- What is known goes on being known, and P holds of what the tree held and holds. Where it is not
-- known, it stays so.
abbrev pub IfTreeKnown : TreeState → TreeState → (Store → Store → Type 0) → Type 0
IfTreeKnown before now P = IfBoth before.contents now.contents P

-- ---- counts

-- none of the four numbers fell
pub record NoneFell (before now : Counts) : Type 0 where
  pub faults : before.faults ≤ now.faults
  pub denials : before.denials ≤ now.denials
  pub out_of_memory : before.out_of_memory ≤ now.out_of_memory
  pub changes : before.changes ≤ now.changes

-- no call was refused
pub record NoneRefused (before now : Counts) : Type 0 where
  pub faults : now.faults ≡ before.faults
  pub denials : now.denials ≡ before.denials
  pub out_of_memory : now.out_of_memory ≡ before.out_of_memory

-- one more was counted; a count that stands at u64's last value passes for one that has risen
abbrev pub IsCounted : ℕ → ℕ → Type 0
IsCounted before now = next_number before ≤ now

-- no count fell, Ok counted no refusal, and each refusal was counted as what it is
pub record CountsRefusals {T : Type 0} (result : Result T TreeFault) (before now : Counts) : Type 0 where
  pub later : NoneFell before now
  pub done : OnOk result (NoneRefused before now)
  pub failed : IsErrOf result Failed → IsCounted before.faults now.faults
  pub denied : IsErrOf result Denied → IsCounted before.denials now.denials
  pub memory : IsErrOf result Memory → IsCounted before.out_of_memory now.out_of_memory
