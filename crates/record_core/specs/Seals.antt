-- Sealing: the list of an open log that a tree shows, and what sealing a text answers.
use Rattle.std.specs.Prelude.{◌≡◌, ◌⊎◌, ⊤, ℕ, Bool, true, false, List, [], ◌∷◌, ◌++◌, Option, Some, Result, Ok, Err, IsErrOf}
use Rattle.sync_path.specs.Paths.{Node, comes_before, same_path}
use Rattle.sync_command.specs.declared.values.Version.{Version}
use Rattle.sync_command.specs.Changes.{Change}
use Rattle.sync_port.specs.Ports.{SinkContents}
use Rattle.sync_command.specs.Maps.{Store, at, stored}
use Rattle.sync_command.specs.Trees.{Holding, command_at}
use Rattle.log_text.specs.LogPieces.{IsShownLog}
use Rattle.log_text.specs.OpenLogs.{IsOpenLog, ended_part}
use Rattle.canon_set.specs.Logs.{IsBrokenAt, IsTaken, all_change, names, touches}
use Rattle.tree_port.specs.States.{IfHeld, IsCounted, NoneFell, NoneRefused, TreeState}
use Rattle.record_core.specs.declared.faults.SealFault.{SealFault}
use Rattle.record_core.specs.declared.faults.SealFault.TheVariants.{Text, Broken, Diverged, Failed, Denied, Memory}

-- ---- an open log

-- the version of its text, its complete commands, and whether the right end line is there
pub record OpenLog : Type 0 where
  pub version : Version
  pub commands : List Change
  pub ended : Bool

-- the log that a text is; what follows the text's last line feed is dropped
abbrev pub IsLogOf : List ℕ → OpenLog → Type 0
IsLogOf text log = IsOpenLog (ended_part text) log.version log.commands log.ended

-- ---- an open log and a tree

-- if the log touches the node, the node holds its last value
abbrev pub HoldsLast : OpenLog → Holding → Node → Type 0
HoldsLast log t n = (d : Change) → command_at (touches log.commands) n ≡ Some d → t n ≡ d.new

-- the log has no end line, and its last command, which follows those of `done`, is not done: its node holds its old value
pub record IsUndone (log : OpenLog) (t : Holding) (done : List Change) (last : Change) : Type 0 where
  pub all : log.commands ≡ done ++ last ∷ []
  pub no_end : log.ended ≡ false
  pub old : t last.node ≡ last.old

-- The sealed list of a log on a tree. It is the whole list, where each touched node holds its last value. It is the list
-- without its last command, where that one is not done and each other touched node holds its last value.
abbrev pub IsSealed : OpenLog → Holding → List Change → Type 0
IsSealed log t sealed =
    ((sealed ≡ log.commands) × ((n : Node) → HoldsLast log t n)) ⊎
    ((last : Change) × (IsUndone log t sealed last × ((n : Node) → same_path n last.node ≡ false → HoldsLast log t n)))

-- all commands of the log, or without an end line all but the last
abbrev pub IsAllOrAllButLast : OpenLog → List Change → Type 0
IsAllOrAllButLast log done = (done ≡ log.commands) ⊎ ((log.ended ≡ false) × ((last : Change) × (log.commands ≡ done ++ last ∷ [])))

-- What a recording of cs leaves, as an open log: its list is a first part of cs; the tree is the result of that list, or
-- without an end line of all but its last command; and the commands whose result the tree is are the sealed list.
pub record LeavesLog (cs : List Change) (w x : SinkContents) (m n : Store) : Type 0 where
  pub gained : List ℕ
  pub written : x.written ≡ w.written ++ gained
  pub log : OpenLog
  pub read : IsLogOf gained log
  pub rest : List Change
  pub prefix : cs ≡ log.commands ++ rest
  pub done : List Change
  pub which : IsAllOrAllButLast log done
  pub tree : n ≡ stored m done
  pub is_sealed : IsSealed log (at n) done

-- a node is in order where it holds its last value, or is the node of a last command that is not done
abbrev pub IsInOrder : OpenLog → Holding → Node → Type 0
IsInOrder log t n = HoldsLast log t n ⊎ ((done : List Change) × ((last : Change) × ((n ≡ last.node) × IsUndone log t done last)))

-- the first node in path order that is not in order
pub record Diverges (log : OpenLog) (t : Holding) (n : Node) : Type 0 where
  pub here : IsInOrder log t n → ⊥
  pub first : (p : Node) → (IsInOrder log t p → ⊥) → comes_before p n ≡ false

-- ---- what sealing answers

-- A list that is answered for a log over a tree that holds this, where that is known; some tree takes the log, and each of
-- its commands changes its node's value. Of whatever tree it is the whole log, or without an end line all but the last command.
pub record SealsLog (log : OpenLog) (held : Option Store) (sealed : List Change) : Type 0 where
  pub taken : IsTaken log.commands
  pub change : all_change log.commands ≡ true
  pub which : IsAllOrAllButLast log sealed
  pub is_sealed : IfHeld held (λ m. IsSealed log (at m) sealed)

-- A fault: the first command with which no tree takes the log; the first node that is not in order, which is touched; or
-- the tree, which was asked for some node. A tree of which it is known what it holds denies nothing.
abbrev pub FailsLog : OpenLog → Option Store → SealFault → Type 0
FailsLog log held (Text fault) = ⊥
FailsLog log held (Broken number) = IsBrokenAt log.commands number
FailsLog log held (Diverged path) = IsTaken log.commands × (names log.commands path ≡ true) × IfHeld held (λ m. Diverges log (at m) path)
FailsLog log held Failed = IsTaken log.commands × (log.commands ≡ [] → ⊥)
FailsLog log held Denied = IsTaken log.commands × (log.commands ≡ [] → ⊥) × IfHeld held (λ m. ⊥)
FailsLog log held Memory = ⊤

-- a list that is answered for a text, in the log's version
pub record SealsText (text : List ℕ) (held : Option Store) (version : Version) (sealed : List Change) : Type 0 where
  pub log : OpenLog
  pub read : IsLogOf text log
  pub same_version : version ≡ log.version
  pub answer : SealsLog log held sealed

abbrev pub IsFaultOfLog : List ℕ → Option Store → SealFault → Type 0
IsFaultOfLog text held fault = (log : OpenLog) × (IsLogOf text log × FailsLog log held fault)

-- a fault: that of the text's first wrong line, or one of its log
abbrev pub FailsText : List ℕ → Option Store → SealFault → Type 0
FailsText text held (Text fault) = IsShownLog (ended_part text) fault
FailsText text held (Broken number) = IsFaultOfLog text held (Broken number)
FailsText text held (Diverged path) = IsFaultOfLog text held (Diverged path)
FailsText text held Failed = IsFaultOfLog text held Failed
FailsText text held Denied = IsFaultOfLog text held Denied
FailsText text held Memory = ⊤

-- P, where the answer is not about a call of the tree that was refused
abbrev pub UnlessRefused : {T : Type 0} → Result T SealFault → Type 0 → Type 0
UnlessRefused (Ok x) P = P
UnlessRefused (Err (Text fault)) P = P
UnlessRefused (Err (Broken number)) P = P
UnlessRefused (Err (Diverged path)) P = P
UnlessRefused (Err Failed) P = ⊤
UnlessRefused (Err Denied) P = ⊤
UnlessRefused (Err Memory) P = ⊤

-- nothing in the tree is changed, no count fell, and each refusal of the tree was counted
pub record LooksOnly {T : Type 0} (result : Result T SealFault) (before now : TreeState) : Type 0 where
  pub later : NoneFell before.counts now.counts
  pub changes : now.counts.changes ≡ before.counts.changes
  pub contents : now.contents ≡ before.contents
  pub answered : UnlessRefused result (NoneRefused before.counts now.counts)
  pub failed : IsErrOf result Failed → IsCounted before.counts.faults now.counts.faults
  pub denied : IsErrOf result Denied → IsCounted before.counts.denials now.counts.denials
