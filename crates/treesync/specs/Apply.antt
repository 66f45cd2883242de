-- The answer of `apply FOLDER SET`, and what becomes of the tree: the net set of SET is applied to the tree in FOLDER.
use Rattle.std.specs.Prelude.{◌≡◌, ◌⊎◌, ◌++◌, ℕ, List, [], ◌∷◌, codes, decimal, true, false, ⊤, Option, None, Some, Result, Ok, Err, IfOk}
use Rattle.sync_path.specs.Paths.{Node}
use Rattle.sync_command.specs.Changes.{Change}
use Rattle.sync_command.specs.Maps.{Store, at}
use Rattle.sync_command.specs.Trees.{after}
use Rattle.tree_port.specs.States.{IfTreeKnown, IsCounted, NoneFell, NoneRefused, TreeState}
use Rattle.resume_apply.specs.Ready.{IsOnItsWay, IsReady, work}
use Rattle.resume_apply.specs.Finishing.{IsPaid, counted_on}
use Rattle.resume_apply.specs.Preparing.{IsFirstBlocked, first_diverged}
use Rattle.resume_apply.specs.declared.faults.ApplyFault.{ApplyFault}
use Rattle.resume_apply.specs.declared.faults.ApplyFault.TheVariants as fault
use Rattle.tool_words.specs.Words.{Operand}
use Rattle.treesync.specs.Checks.{Causes, Check, Judged, Then, Unless}
use Rattle.treesync.specs.Logs.{IsLog}
use Rattle.treesync.specs.Steer.{IsNetSet}
use Rattle.treesync.specs.declared.logs.TheConstants.{FULL_ALLOWANCE}
use Rattle.treesync.specs.declared.refusal.Refusal.{Refusal}
use Rattle.treesync.specs.declared.refusal.Refusal.TheVariants.{InvalidArguments, OutOfMemory, CallFailed, Found}
use Rattle.treesync.specs.declared.refusal.Failure.TheVariants.{ReadFailed, TreeFailed, TreeDenied}
use Rattle.treesync.specs.declared.refusal.Finding.TheVariants.{Blocked, Diverged}

-- `applied N`
abbrev pub applied_text : ℕ → List ℕ
applied_text number = codes "applied " ++ (decimal number ++ codes "\n")

-- ---- which answers are right

-- On a tree that is known: where it is ready, the work that is left; else the first node, in the order of the set, that
-- holds none of the values of ready; else the first, in path order, that would be left below what is no directory.
abbrev pub IsAppliedTo : ℕ → List Change → Store → Result (List ℕ) Refusal → Type 0
IsAppliedTo word set m (Ok text) = IsReady (at m) set × (text ≡ applied_text (work set (at m)))
IsAppliedTo word set m (Err r) =
    ((p : Node) × (r ≡ Found (Diverged word p)) × (first_diverged set (at m) ≡ Some p))
    ⊎ ((p : Node) × (r ≡ Found (Blocked word p)) × (first_diverged set (at m) ≡ None) × IsFirstBlocked set (at m) p)

-- on a tree that is not known: one of the same forms
abbrev pub IsAppliedText : ℕ → Result (List ℕ) Refusal → Type 0
IsAppliedText word (Ok text) = (number : ℕ) × (text ≡ applied_text number)
IsAppliedText word (Err r) = (p : Node) × ((r ≡ Found (Diverged word p)) ⊎ (r ≡ Found (Blocked word p)))

abbrev pub IsAppliedWhereKnown : ℕ → List Change → Option Store → Result (List ℕ) Refusal → Type 0
IsAppliedWhereKnown word set None answer = IsAppliedText word answer
IsAppliedWhereKnown word set (Some m) answer = IsAppliedTo word set m answer

-- where a call of the tree is refused
abbrev pub IsStopped : ℕ → Result (List ℕ) Refusal → Type 0
IsStopped word answer = (answer ≡ Err (CallFailed (TreeFailed word))) ⊎ (answer ≡ Err (CallFailed (TreeDenied word)))

-- the application of a set to the tree that a word names
abbrev pub IsApplied : ℕ → Option Store → List Change → Check (List ℕ)
IsApplied word tree set held false answer = IsAppliedWhereKnown word set tree answer
IsApplied word tree set held true answer = IsStopped word answer

-- the net set of the log that a word names
abbrev pub IsSetOf : Operand → Check (List Change)
IsSetOf file = Then (IsLog FULL_ALLOWANCE file.place file.text) (λ read. Judged (IsNetSet file.place read))

abbrev pub IsApply : Operand → Operand → Option Store → Check (List ℕ)
IsApply folder file tree = Then (IsSetOf file) (IsApplied folder.place tree)

-- ---- what becomes of the tree

-- a refusal that comes before the first change
abbrev pub IsBeforeChanges : {X : Type 0} → Result X Refusal → Type 0
IsBeforeChanges (Err (Found finding)) = ⊤
IsBeforeChanges (Err InvalidArguments) = ⊤
IsBeforeChanges (Err (CallFailed (ReadFailed word))) = ⊤
IsBeforeChanges result = ⊥

-- the tree holds what it held, and no change was counted
pub record IsStill (before now : TreeState) : Type 0 where
  pub contents : now.contents ≡ before.contents
  pub changes : now.counts.changes ≡ before.counts.changes

-- What applying a set leaves, whatever was answered. No count falls; a refusal of the tree is counted only where a call
-- failed or memory ran out; a finding leaves the tree as it was. A tree that is known is as it was, or was ready and is on
-- its way; the changes that were counted are paid by its work; and after a text it is the target.
pub record Applies {X : Type 0} (set : List Change) (result : Result X Refusal) (before now : TreeState) : Type 0 where
  pub later : NoneFell before.counts now.counts
  pub quiet : Unless result (NoneRefused before.counts now.counts)
  pub still : IsBeforeChanges result → IsStill before now
  pub way : IfTreeKnown before now (λ m n. (n ≡ m) ⊎ (IsReady (at m) set × IsOnItsWay set (at m) (at n)))
  pub paid : IfTreeKnown before now (λ m n. IsPaid before.counts (work set (at m)) now.counts (work set (at n)))
  pub target : IfTreeKnown before now (λ m n. IfOk result (λ x. IsReady (at m) set × (at n ≡ after set (at m))))

-- the text of an answer gives the number of the changes that were counted
abbrev pub IsNumbered : {X : Type 0} → (X → List ℕ → Type 0) → Result X Refusal → TreeState → TreeState → Type 0
IsNumbered shows result before now =
    IfOk result (λ x. (changes : ℕ) × shows x (applied_text changes) × (now.counts.changes ≡ counted_on before.counts.changes changes))

-- ---- what functions owe

-- A call of the tree was refused only where it was counted as what it is, and denied only by a tree that is not known; no
-- file is read.
abbrev pub TreeCounted : TreeState → TreeState → Causes
TreeCounted before now (ReadFailed word) = ⊥
TreeCounted before now (TreeFailed word) = IsCounted before.counts.faults now.counts.faults
TreeCounted before now (TreeDenied word) = IsCounted before.counts.denials now.counts.denials × (before.contents ≡ None)

-- an answer on a tree that is right, or out of memory, or a refusal that was counted
abbrev pub IsRightOnTree : {X : Type 0} → (X → List ℕ → Type 0) → ℕ → List Change → Option Store → Causes → Result X Refusal → Type 0
IsRightOnTree stands word set tree counted (Ok x) = (text : List ℕ) × stands x text × IsAppliedWhereKnown word set tree (Ok text)
IsRightOnTree stands word set tree counted (Err (Found finding)) = IsAppliedWhereKnown word set tree (Err (Found finding))
IsRightOnTree stands word set tree counted (Err (CallFailed failure)) = counted failure × IsStopped word (Err (CallFailed failure))
IsRightOnTree stands word set tree counted (Err OutOfMemory) = ⊤
IsRightOnTree stands word set tree counted (Err InvalidArguments) = ⊥

-- what a function owes that applies a set to a tree
pub record AppliesSet {X : Type 0} (stands : X → List ℕ → Type 0) (word : ℕ) (set : List Change) (before now : TreeState) (result : Result X Refusal) : Type 0 where
  pub right : IsRightOnTree stands word set before.contents (TreeCounted before now) result
  pub tree : Applies set result before now
  pub number : IsNumbered stands result before now

-- P holds of the only tree of a list, before and after
abbrev pub OfOnlyTree : List TreeState → List TreeState → (TreeState → TreeState → Type 0) → Type 0
OfOnlyTree (tree ∷ []) (now ∷ []) P = P tree now
OfOnlyTree trees later P = ⊥

-- what a refused application means
abbrev pub apply_refusal : ℕ → ApplyFault → Refusal
apply_refusal word (fault.Diverged p) = Found (Diverged word p)
apply_refusal word (fault.Blocked p) = Found (Blocked word p)
apply_refusal word fault.Failed = CallFailed (TreeFailed word)
apply_refusal word fault.Denied = CallFailed (TreeDenied word)
apply_refusal word fault.Memory = OutOfMemory
