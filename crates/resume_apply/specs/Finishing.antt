-- What applying a set needs and leaves, command by command.
use Rattle.std.specs.Prelude.{◌≡◌, ◌+◌, ◌≤◌, ℕ, zero, suc, true, false, List, Result, IfOk, IsErrOf}
use Rattle.sync_path.specs.Paths.{Node}
use Rattle.sync_port.specs.States.{next_number}
use Rattle.sync_command.specs.declared.values.Value.{Value}
use Rattle.sync_command.specs.declared.values.Value.TheVariants.{Empty, Dir, File}
use Rattle.sync_command.specs.Values.{is_dir, is_empty}
use Rattle.sync_command.specs.Changes.{Change, is_down}
use Rattle.sync_command.specs.Trees.{Holding, after, put}
use Rattle.sync_command.specs.Maps.{at}
use Rattle.apply_model.specs.Parents.{IsBelowDir}
use Rattle.tree_port.specs.States.{Counts, CountsRefusals, IfTreeKnown, TreeState, WhereKnown}
use Rattle.tree_port.specs.Conditions.{CanMake, CanPut, CanRemove, HasNoChild}
use Rattle.tree_port.specs.declared.faults.TreeFault.{TreeFault}
use Rattle.tree_port.specs.declared.faults.TreeFault.TheVariants.{Denied}
use Rattle.resume_apply.specs.Ready.{IsOnItsWay, IsReady, is_ready_value, work, work_at}

-- a number after so many steps; it stays at u64's last value
abbrev pub counted_on : ℕ → ℕ → ℕ
counted_on before zero = before
counted_on before (suc k) = next_number (counted_on before k)

-- the changes that were counted, and the work that is left, are together no more than they were
abbrev pub IsPaid : Counts → ℕ → Counts → ℕ → Type 0
IsPaid before work_before now work_now = now.changes + work_now ≤ before.changes + work_before

-- ---- one command

-- A tree in which one command can be done: it is ready at the node, what is made is below a directory, and what is
-- taken away has no children.
pub record CanDo (c : Change) (t : Holding) : Type 0 where
  pub value : is_ready_value c (t c.node) ≡ true
  pub below : is_empty c.new ≡ false → IsBelowDir t c.node
  pub last : is_down c ≡ true → HasNoChild t c.node

-- the condition of the one call that gives a node its new value
abbrev pub CanChange : Value → Value → Holding → Node → Type 0
CanChange old Empty t n = CanRemove t n
CanChange old (File bytes) t n = CanPut t n
CanChange (Dir from) (Dir label) t n = is_dir (t n) ≡ true
CanChange Empty (Dir label) t n = CanMake t n
CanChange (File bytes) (Dir label) t n = CanMake t n

-- n is m but for the command's node, where it is ready
pub record IsMoved (c : Change) (m n : Holding) : Type 0 where
  pub there : n ≡ put m c.node (n c.node)
  pub value : is_ready_value c (n c.node) ≡ true

-- the command is done, by so many changes, which were its work
pub record IsDone (c : Change) (m n : Holding) (changes : ℕ) : Type 0 where
  pub there : n c.node ≡ c.new
  pub all_work : changes ≡ work_at c (m c.node)

-- what one command leaves, whatever was answered
pub record Does (c : Change) (result : Result ℕ TreeFault) (before now : TreeState) : Type 0 where
  pub counts : CountsRefusals result before.counts now.counts
  pub number : IfOk result (λ k. now.counts.changes ≡ counted_on before.counts.changes k)
  pub moved : IfTreeKnown before now (λ m n. IsMoved c (at m) (at n))
  pub paid : IfTreeKnown before now (λ m n. IsPaid before.counts (work_at c (at m c.node)) now.counts (work_at c (at n c.node)))
  pub done : IfTreeKnown before now (λ m n. IfOk result (IsDone c (at m) (at n)))
  pub never_denied : WhereKnown before (λ m. IsErrOf result Denied → ⊥)
  pub few : IfOk result (λ k. k ≤ 2)

-- ---- the whole set

-- What applying a set leaves, whatever was answered: each refusal was counted, the number of an Ok is that of the
-- changes, and a known tree is on its way, was never denied, and is the target after Ok, where the number is all its
-- work.
pub record Finishes (cs : List Change) (result : Result ℕ TreeFault) (before now : TreeState) : Type 0 where
  pub counts : CountsRefusals result before.counts now.counts
  pub number : IfOk result (λ k. now.counts.changes ≡ counted_on before.counts.changes k)
  pub way : IfTreeKnown before now (λ m n. IsOnItsWay cs (at m) (at n))
  pub paid : IfTreeKnown before now (λ m n. IsPaid before.counts (work cs (at m)) now.counts (work cs (at n)))
  pub target : IfTreeKnown before now (λ m n. IfOk result (λ k. (at n ≡ after cs (at m)) × (k ≡ work cs (at m))))
  pub never_denied : WhereKnown before (λ m. IsErrOf result Denied → ⊥)
