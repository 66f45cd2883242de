-- What the calls of a live tree answer and change.
use Rattle.std.specs.Prelude.{◌≡◌, ◌⊎◌, ◌↔◌, ⊤, ℕ, Bool, true, IsTrue, List, Option, Vec, Result, Ok, Err, OnOk, OnErr, IsErrOf}
use Rattle.sync_port.specs.States.{next_number}
use Rattle.sync_path.specs.Paths.{Node}
use Rattle.sync_command.specs.declared.values.Kind.{Kind}
use Rattle.sync_command.specs.declared.values.Kind.TheVariants as kind
use Rattle.sync_command.specs.declared.values.Value.{Value}
use Rattle.sync_command.specs.declared.values.Value.TheVariants.{Empty, Dir, File}
use Rattle.sync_command.specs.Maps.{IsTreeMap, Store, at, store}
use Rattle.sync_command.specs.Values.{is_dir, kind_of}
use Rattle.tree_port.specs.Conditions.{AreChildren, CanList, CanMake, CanPut, CanRemove}
use Rattle.tree_port.specs.States.{CountsRefusals, IsCounted, NoneFell, NoneRefused, TreeState, WhereKnown}
use Rattle.tree_port.specs.declared.faults.TreeFault.{TreeFault}
use Rattle.tree_port.specs.declared.faults.TreeFault.TheVariants.{Failed, Denied, Memory}

-- ---- reading calls

-- a reading call changes nothing; what is known to be held is a tree
pub record IsReading {T : Type 0} (result : Result T TreeFault) (before now : TreeState) : Type 0 where
  pub counts : CountsRefusals result before.counts now.counts
  pub changes : now.counts.changes ≡ before.counts.changes
  pub contents : now.contents ≡ before.contents
  pub tree : WhereKnown before IsTreeMap

-- Ok comes only where the call can be done, and then the answer is right; Denied only where it can't
abbrev pub Answers : {T : Type 0} → Type 0 → (T → Type 0) → Result T TreeFault → Type 0
Answers can right (Ok x) = can × right x
Answers can right (Err Failed) = ⊤
Answers can right (Err Denied) = can → ⊥
Answers can right (Err Memory) = ⊤

-- `kind`: the node's kind
abbrev pub GivesKind : Node → Result Kind TreeFault → Store → Type 0
GivesKind n result m = Answers ⊤ (λ k. k ≡ kind_of (at m n)) result

-- `holds`: whether the node holds the value
abbrev pub AnswersIfHeld : Node → Value → Result Bool TreeFault → Store → Type 0
AnswersIfHeld n v result m = Answers ⊤ (λ b. IsTrue b ↔ (at m n ≡ v)) result

-- `read_file`: the contents of a file
abbrev pub GivesBytes : Node → Result (List ℕ) TreeFault → Store → Type 0
GivesBytes n result m = Answers (kind_of (at m n) ≡ kind.File) (λ bytes. at m n ≡ File bytes) result

-- `label`: the label of a directory
abbrev pub GivesLabel : Node → Result (List ℕ) TreeFault → Store → Type 0
GivesLabel n result m = Answers (is_dir (at m n) ≡ true) (λ label. at m n ≡ Dir label) result

-- `children`: the children of a directory that are not empty, or the roots
abbrev pub GivesChildren : {A : Type 0} → Option Node → Result (Vec Node A) TreeFault → Store → Type 0
GivesChildren above result m = Answers (CanList (at m) above) (λ found. AreChildren (at m) above found.items) result

-- the answer is right, and no denial came
abbrev pub Finds : {T : Type 0} → (T → Type 0) → Result T TreeFault → Type 0
Finds right result = Answers ⊤ right result

-- ---- the whole tree

-- A call that reads a tree by its reading calls. It changes nothing, and a call that failed or was
-- denied was counted; memory may also run out where the tree counts nothing.
pub record IsWholeReading {T : Type 0} (result : Result T TreeFault) (before now : TreeState) : Type 0 where
  pub later : NoneFell before.counts now.counts
  pub done : OnOk result (NoneRefused before.counts now.counts)
  pub failed : IsErrOf result Failed → IsCounted before.counts.faults now.counts.faults
  pub denied : IsErrOf result Denied → IsCounted before.counts.denials now.counts.denials
  pub changes : now.counts.changes ≡ before.counts.changes
  pub contents : now.contents ≡ before.contents
  pub tree : WhereKnown before IsTreeMap

-- `dump`: the map of what the tree holds
abbrev pub GivesMap : Result Store TreeFault → Store → Type 0
GivesMap result m = Finds (λ map. map ≡ m) result

-- ---- changing calls

-- Ok counts one change more, and nothing else does
pub record IsChanging {T : Type 0} (result : Result T TreeFault) (before now : TreeState) : Type 0 where
  pub counts : CountsRefusals result before.counts now.counts
  pub done : OnOk result (now.counts.changes ≡ next_number before.counts.changes)
  pub refused : OnErr result (now.counts.changes ≡ before.counts.changes)

-- A value is put at a node, on a condition: it is after Ok, it may be after Failed, and it is not
-- after the other refusals. Every other node holds what it held.
abbrev pub Puts : {T : Type 0} → Type 0 → Node → Value → Result T TreeFault → Store → Store → Type 0
Puts can n v (Ok done) m k = can × (k ≡ store m n v)
Puts can n v (Err Failed) m k = (k ≡ m) ⊎ (can × (k ≡ store m n v))
Puts can n v (Err Denied) m k = (can → ⊥) × (k ≡ m)
Puts can n v (Err Memory) m k = k ≡ m

-- `put_file`: a file with the contents, in the place of a file or of nothing
abbrev pub PutsFile : {T : Type 0} → Node → List ℕ → Result T TreeFault → Store → Store → Type 0
PutsFile n bytes result m k = Puts (CanPut (at m) n) n (File bytes) result m k

-- `make_dir`: a directory with the label, where nothing is
abbrev pub MakesDir : {T : Type 0} → Node → List ℕ → Result T TreeFault → Store → Store → Type 0
MakesDir n label result m k = Puts (CanMake (at m) n) n (Dir label) result m k

-- `set_label`: a directory has the label
abbrev pub SetsLabel : {T : Type 0} → Node → List ℕ → Result T TreeFault → Store → Store → Type 0
SetsLabel n label result m k = Puts (is_dir (at m n) ≡ true) n (Dir label) result m k

-- `remove`: nothing, in the place of a file or of a directory without children
abbrev pub Removes : {T : Type 0} → Node → Result T TreeFault → Store → Store → Type 0
Removes n result m k = Puts (CanRemove (at m) n) n Empty result m k
