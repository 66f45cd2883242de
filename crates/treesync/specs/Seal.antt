-- The answer of `seal FOLDER LOG`: the commands of the open log in LOG that the tree in FOLDER shows to be done, as a log.
use Rattle.std.specs.Prelude.{◌≡◌, ℕ, List, [], ◌∷◌, Bool, true, false, ⊤, Option, Result, Ok, Err}
use Rattle.sync_command.specs.declared.values.Version.{Version}
use Rattle.sync_command.specs.Changes.{Change}
use Rattle.sync_command.specs.Maps.{Store}
use Rattle.log_text.specs.Logs.{log_text}
use Rattle.tree_port.specs.States.{NoneFell, NoneRefused, TreeState}
use Rattle.record_core.specs.Seals.{FailsText, SealsText}
use Rattle.record_core.specs.declared.faults.SealFault.{SealFault}
use Rattle.record_core.specs.declared.faults.SealFault.TheVariants as fault
use Rattle.tool_words.specs.Words.{Operand}
use Rattle.treesync.specs.Apply.{IsStill, TreeCounted}
use Rattle.treesync.specs.Checks.{Causes, Check, Then, Unless}
use Rattle.treesync.specs.Files.{IsFile}
use Rattle.treesync.specs.declared.input.TheConstants.{FILE_LIMIT}
use Rattle.treesync.specs.declared.refusal.Refusal.{Refusal}
use Rattle.treesync.specs.declared.refusal.Refusal.TheVariants.{InvalidArguments, OutOfMemory, CallFailed, Found}
use Rattle.treesync.specs.declared.refusal.Failure.TheVariants.{TreeFailed, TreeDenied}
use Rattle.treesync.specs.declared.refusal.Finding.TheVariants.{Diverged, NoTree, Text}

-- ---- refusals

-- what a refused sealing means, of the log that one word names and the tree that another one names
abbrev pub seal_refusal : ℕ → ℕ → SealFault → Refusal
seal_refusal folder word (fault.Text text) = Found (Text word text)
seal_refusal folder word (fault.Broken number) = Found (NoTree word number)
seal_refusal folder word (fault.Diverged p) = Found (Diverged folder p)
seal_refusal folder word fault.Failed = CallFailed (TreeFailed folder)
seal_refusal folder word fault.Denied = CallFailed (TreeDenied folder)
seal_refusal folder word fault.Memory = OutOfMemory

-- it was found in the text, in its log or on the tree
abbrev pub IsFinding : SealFault → Type 0
IsFinding (fault.Text text) = ⊤
IsFinding (fault.Broken number) = ⊤
IsFinding (fault.Diverged p) = ⊤
IsFinding fault.Failed = ⊥
IsFinding fault.Denied = ⊥
IsFinding fault.Memory = ⊥

-- a call of the tree was refused
abbrev pub IsRefusedCall : SealFault → Type 0
IsRefusedCall (fault.Text text) = ⊥
IsRefusedCall (fault.Broken number) = ⊥
IsRefusedCall (fault.Diverged p) = ⊥
IsRefusedCall fault.Failed = ⊤
IsRefusedCall fault.Denied = ⊤
IsRefusedCall fault.Memory = ⊥

-- ---- which answers are right

-- where no call is refused: the text of the sealed log, or what was found; where one is, that
abbrev pub IsSealing : ℕ → ℕ → Option Store → List ℕ → Bool → Result (List ℕ) Refusal → Type 0
IsSealing folder word tree text false (Ok printed) =
    (version : Version) × (sealed : List Change) × SealsText text tree version sealed × (printed ≡ log_text version sealed)
IsSealing folder word tree text false (Err r) = (e : SealFault) × (r ≡ seal_refusal folder word e) × FailsText text tree e × IsFinding e
IsSealing folder word tree text true (Ok printed) = ⊥
IsSealing folder word tree text true (Err r) = (e : SealFault) × (r ≡ seal_refusal folder word e) × FailsText text tree e × IsRefusedCall e

-- the same as a check
abbrev pub IsSealedOver : ℕ → ℕ → Option Store → List ℕ → Check (List ℕ)
IsSealedOver folder word tree text held failed answer = IsSealing folder word tree text failed answer

abbrev pub IsSeal : Operand → Operand → Option Store → Check (List ℕ)
IsSeal folder file tree = Then (IsFile FILE_LIMIT file.place file.text) (IsSealedOver folder.place file.place tree)

-- ---- what becomes of the tree

-- It was looked at: no count fell, it holds what it held, and no refusal was counted but where a call failed or memory ran
-- out.
pub record LooksAt {X : Type 0} (result : Result X Refusal) (before now : TreeState) : Type 0 where
  pub later : NoneFell before.counts now.counts
  pub quiet : Unless result (NoneRefused before.counts now.counts)
  pub still : IsStill before now

-- the same of the only tree of a list
abbrev pub LooksAtOnly : {X : Type 0} → Result X Refusal → List TreeState → List TreeState → Type 0
LooksAtOnly result (tree ∷ []) (now ∷ []) = LooksAt result tree now
LooksAtOnly result trees later = ⊥

-- ---- what functions owe

-- a right answer, or out of memory, or a refused call that was counted
abbrev pub IsRightSeal : {X : Type 0} → (X → List ℕ → Type 0) → (Bool → Result (List ℕ) Refusal → Type 0) → Causes → Result X Refusal → Type 0
IsRightSeal stands Q counted (Ok x) = (text : List ℕ) × stands x text × Q false (Ok text)
IsRightSeal stands Q counted (Err (Found finding)) = Q false (Err (Found finding))
IsRightSeal stands Q counted (Err (CallFailed failure)) = counted failure × Q true (Err (CallFailed failure))
IsRightSeal stands Q counted (Err OutOfMemory) = ⊤
IsRightSeal stands Q counted (Err InvalidArguments) = ⊥

-- what a function owes that seals a text over a tree
pub record Seals {X : Type 0} (stands : X → List ℕ → Type 0) (folder word : ℕ) (text : List ℕ) (before now : TreeState) (result : Result X Refusal) : Type 0 where
  pub right : IsRightSeal stands (IsSealing folder word before.contents text) (TreeCounted before now) result
  pub tree : LooksAt result before now
