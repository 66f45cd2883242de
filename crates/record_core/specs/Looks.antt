-- How the touched nodes of a log stand on a tree, one after another.
use Rattle.std.specs.Prelude.{◌≡◌, ◌⊎◌, ◌-◌, ◌<◌, ⊤, ℕ, Bool, true, false, List, length, slice_get, if◌then◌else◌, Option, Some, None, Result, Ok, Err}
use Rattle.sync_path.specs.Paths.{Node, comes_before}
use Rattle.sync_command.specs.Changes.{Change}
use Rattle.sync_command.specs.Trees.{Holding}
use Rattle.log_text.specs.declared.faults.LogFault.{LogFault}
use Rattle.log_text.specs.declared.faults.LogFault.TheVariants as text
use Rattle.canon_set.specs.Logs.{IsBrokenAt}
use Rattle.canon_set.specs.Sums.{Sum, StandsFor}
use Rattle.canon_set.specs.declared.touches.Touch.{Touch}
use Rattle.tree_port.specs.States.{CountsRefusals, TreeState}
use Rattle.tree_port.specs.declared.faults.TreeFault.{TreeFault}
use Rattle.tree_port.specs.declared.faults.TreeFault.TheVariants as tree
use Rattle.record_core.specs.declared.faults.SealFault.{SealFault}
use Rattle.record_core.specs.declared.faults.SealFault.TheVariants.{Text, Broken, Diverged, Failed, Denied, Memory}
use Rattle.record_core.specs.declared.sealing.Standing.{Standing}
use Rattle.record_core.specs.declared.sealing.Standing.TheVariants as standing
use Rattle.record_core.specs.declared.sealing.Shown.{Shown}
use Rattle.record_core.specs.declared.sealing.Shown.TheVariants as shown

-- what a fault of the tree is to a seal
abbrev pub of_tree : TreeFault → SealFault
of_tree tree.Failed = Failed
of_tree tree.Denied = Denied
of_tree tree.Memory = Memory

-- what a fault of a text is to a seal
abbrev pub of_log : LogFault → SealFault
of_log (text.Text fault) = Text fault
of_log text.Memory = Memory

-- the last command of a log without an end line, which may not be done
abbrev pub open_command : Bool → List Change → Option Change
open_command true cs = None
open_command false cs = slice_get cs (length cs - 1)

-- the sum of a log, or the first command with which no tree takes it, or memory ran out
abbrev pub SumsUp : List Change → Result Sum SealFault → Type 0
SumsUp cs (Ok s) = StandsFor s cs
SumsUp cs (Err (Text fault)) = ⊥
SumsUp cs (Err (Broken number)) = IsBrokenAt cs number
SumsUp cs (Err (Diverged path)) = ⊥
SumsUp cs (Err Failed) = ⊥
SumsUp cs (Err Denied) = ⊥
SumsUp cs (Err Memory) = ⊤

-- nothing is changed, and each refusal was counted
pub record Asks {T : Type 0} (result : Result T TreeFault) (before now : TreeState) : Type 0 where
  pub counts : CountsRefusals result before.counts now.counts
  pub changes : now.counts.changes ≡ before.counts.changes
  pub contents : now.contents ≡ before.contents

-- the answer is right, and no denial came
abbrev pub IsRightLook : {T : Type 0} → (T → Type 0) → Result T TreeFault → Type 0
IsRightLook right (Ok x) = right x
IsRightLook right (Err tree.Failed) = ⊤
IsRightLook right (Err tree.Denied) = ⊥
IsRightLook right (Err tree.Memory) = ⊤

-- ---- one node

-- the node is that of the open command, and holds its old value
abbrev pub HoldsOld : Holding → Option Change → Node → Type 0
HoldsOld t None n = ⊥
HoldsOld t (Some c) n = (n ≡ c.node) × (t n ≡ c.old)

abbrev pub StandsAs : Holding → Option Change → Touch → Standing → Type 0
StandsAs t last x standing.Done = t x.path ≡ x.last
StandsAs t last x standing.Undone = HoldsOld t last x.path
StandsAs t last x standing.Out = (t x.path ≡ x.last → ⊥) × (HoldsOld t last x.path → ⊥)

-- ---- the first nodes

-- the touch is among the first k
abbrev pub IsAmong : List Touch → ℕ → Touch → Type 0
IsAmong xs k x = (j : ℕ) × ((j < k) × (slice_get xs j ≡ Some x))

abbrev pub StandsWell : Holding → Option Change → Touch → Type 0
StandsWell t last x = (t x.path ≡ x.last) ⊎ HoldsOld t last x.path

-- the first in path order of those among the first k that stand out of order
pub record IsFirstOut (t : Holding) (last : Option Change) (xs : List Touch) (k : ℕ) (y : Touch) : Type 0 where
  pub out : StandsWell t last y → ⊥
  pub first : (x : Touch) → IsAmong xs k x → (StandsWell t last x → ⊥) → comes_before x.path y.path ≡ false

-- what the first k touched nodes show together
abbrev pub Shows : Holding → Option Change → List Touch → ℕ → Shown → Type 0
Shows t last xs k shown.Done = (x : Touch) → IsAmong xs k x → t x.path ≡ x.last
Shows t last xs k shown.Undone = ((n : Node) × HoldsOld t last n) × ((x : Touch) → IsAmong xs k x → StandsWell t last x)
Shows t last xs k (shown.Out place) = (y : Touch) × ((slice_get xs place ≡ Some y) × IsFirstOut t last xs k y)

-- a place that is shown is among the first k
abbrev pub IsWithin : ℕ → Shown → Type 0
IsWithin k shown.Done = ⊤
IsWithin k shown.Undone = ⊤
IsWithin k (shown.Out place) = place < k

abbrev pub IsShownWithin : ℕ → Result Shown TreeFault → Type 0
IsShownWithin k (Ok found) = IsWithin k found
IsShownWithin k (Err fault) = 0 < k

-- of the nodes at two places the one that comes first in path order
abbrev pub IsFirstOf : List Touch → ℕ → ℕ → ℕ → Type 0
IsFirstOf xs kept place found = (x y : Touch) → slice_get xs place ≡ Some x → slice_get xs kept ≡ Some y → found ≡ (if comes_before x.path y.path then place else kept)

-- the node at the place diverges, or memory ran out
abbrev pub IsDiverged : List Touch → ℕ → SealFault → Type 0
IsDiverged xs place (Text fault) = ⊥
IsDiverged xs place (Broken number) = ⊥
IsDiverged xs place (Diverged path) = (y : Touch) → slice_get xs place ≡ Some y → path ≡ y.path
IsDiverged xs place Failed = ⊥
IsDiverged xs place Denied = ⊥
IsDiverged xs place Memory = ⊤
