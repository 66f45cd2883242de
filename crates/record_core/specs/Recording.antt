-- What a recording leaves of a sink and a tree, whatever it answers.
use Rattle.std.specs.Prelude.{⊤, ◌≡◌, ◌⊎◌, ◌≤◌, ℕ, List, [], ◌∷◌, ◌++◌, length, take, IsErrOf, OnOk, Result, Ok, Err}
use Rattle.sync_command.specs.declared.values.Version.{Version}
use Rattle.sync_command.specs.Changes.{Change}
use Rattle.sync_command.specs.Maps.{Store, stored}
use Rattle.sync_port.specs.States.{FaultCounted, IfKnown}
use Rattle.sync_port.specs.Ports.{SinkContents, SinkState}
use Rattle.sync_port.specs.declared.faults.SinkFailed.{SinkFailed}
use Rattle.tree_port.specs.States.{IfTreeKnown, IsCounted, NoneFell, TreeState}
use Rattle.record_core.specs.declared.faults.RecordFault.{RecordFault}
use Rattle.record_core.specs.declared.faults.RecordFault.TheVariants.{OpRefused, TreeFailed, TreeDenied, WriteFault, TooLarge, Memory}
use Rattle.record_core.specs.Texts.{first_line, line_of, end_line_of, open_text, closed_text}

-- ---- causes

-- no count fell, each fault of the sink or the tree was counted there, and after Ok no fault of the sink was
pub record HasCause {T : Type 0} (result : Result T RecordFault) (x y : SinkState) (t u : TreeState) : Type 0 where
  pub sink_later : x.faults ≤ y.faults
  pub sink_quiet : OnOk result (y.faults ≡ x.faults)
  pub tree_later : NoneFell t.counts u.counts
  pub write : IsErrOf result WriteFault → FaultCounted x y
  pub failed : IsErrOf result TreeFailed → IsCounted t.counts.faults u.counts.faults
  pub denied : IsErrOf result TreeDenied → IsCounted t.counts.denials u.counts.denials

-- of the refusals that come before a first command none comes, nor a denial
abbrev pub StopsInside : {T : Type 0} → Result T RecordFault → Type 0
StopsInside (Ok x) = ⊤
StopsInside (Err (OpRefused number why)) = ⊥
StopsInside (Err TooLarge) = ⊥
StopsInside (Err TreeDenied) = ⊥
StopsInside (Err TreeFailed) = ⊤
StopsInside (Err WriteFault) = ⊤
StopsInside (Err Memory) = ⊤

-- ---- what is known of both

-- what is known of the sink and of the tree goes on being known, and P holds where both are
abbrev pub IfBothKnown : SinkState → SinkState → TreeState → TreeState → (SinkContents → SinkContents → Store → Store → Type 0) → Type 0
IfBothKnown x y t u P = IfKnown x y (λ v w. IfTreeKnown t u (λ m n. P v w m n))

-- ---- one line

-- the line was written and flushed
pub record IsWritten (line : List ℕ) (x y : SinkContents) : Type 0 where
  pub gained : y.written ≡ x.written ++ line
  pub flushed : y.flushed ≡ length y.written

-- the first bytes of the line were written, or all of it
pub record IsCut (line : List ℕ) (x y : SinkContents) : Type 0 where
  pub size : ℕ
  pub gained : y.written ≡ x.written ++ take size line
  pub flushed : (y.flushed ≡ x.flushed) ⊎ (y.flushed ≡ length y.written)

abbrev pub WritesLine : {T : Type 0} → List ℕ → Result T SinkFailed → SinkContents → SinkContents → Type 0
WritesLine line (Ok done) x y = IsWritten line x y
WritesLine line (Err failed) x y = IsCut line x y

-- ---- the text and the tree

-- what was flushed reaches over the lines of these commands; of no commands nothing is asked
abbrev pub Covers : Version → List Change → SinkContents → SinkContents → Type 0
Covers version cs w x = (cs ≡ []) ⊎ (length (w.written ++ open_text version cs) ≤ x.flushed)

-- between two commands: the lines of cs are written and flushed, and the tree is their result
pub record IsRecorded (version : Version) (cs : List Change) (w x : SinkContents) (m n : Store) : Type 0 where
  pub gained : x.written ≡ w.written ++ open_text version cs
  pub flushed : Covers version cs w x
  pub tree : n ≡ stored m cs

-- the line that follows those of `done`: that of the next command, or the end line
abbrev pub next_line : List Change → List Change → List ℕ
next_line done [] = end_line_of done
next_line done (c ∷ rest) = line_of c

-- a recording of cs that was cut short in a line, or between a line and the change of the tree
pub data LeavesOpen (version : Version) (cs : List Change) (w x : SinkContents) (m n : Store) : Type 0 where
  -- in the first line; the tree is as it was
  InFirst : (size : ℕ) → x.written ≡ w.written ++ take size (first_line version) → n ≡ m → LeavesOpen version cs w x m n
  -- after the lines of `done`, whose result the tree is, come the first bytes of the next line, or all of it, or nothing
  AfterLines : (done rest : List Change) (size : ℕ) → cs ≡ done ++ rest → x.written ≡ w.written ++ (open_text version done ++ take size (next_line done rest)) →
      Covers version done w x → n ≡ stored m done → LeavesOpen version cs w x m n

-- a recording of cs that was closed by its end line
pub record IsClosed (version : Version) (cs : List Change) (w x : SinkContents) (m n : Store) : Type 0 where
  pub gained : x.written ≡ w.written ++ closed_text version cs
  pub flushed : x.flushed ≡ length x.written
  pub tree : n ≡ stored m cs

-- a part of a recording: after the commands that are recorded these are recorded too; or it was cut short among them, whatever was still to come
abbrev pub Ends : {T : Type 0} → Version → List Change → List Change → Result T RecordFault → SinkContents → SinkContents → Store → Store → Type 0
Ends version done cs (Ok x) w y m o = IsRecorded version (done ++ cs) w y m o
Ends version done cs (Err fault) w y m o = (rest : List Change) → LeavesOpen version (done ++ (cs ++ rest)) w y m o

-- the recording of whatever came before goes on by these commands
abbrev pub GoesOn : {T : Type 0} → List Change → Result T RecordFault → SinkContents → SinkContents → Store → Store → Type 0
GoesOn cs result x y n o =
    (version : Version) (done : List Change) (w : SinkContents) (m : Store) → IsRecorded version done w x m n → Ends version done cs result w y m o

-- ---- the tree alone

-- the tree is the result of a first part of these commands
pub record IsPartDone (cs : List Change) (m n : Store) : Type 0 where
  pub done : List Change
  pub rest : List Change
  pub all : cs ≡ done ++ rest
  pub tree : n ≡ stored m done

-- what a part of a recording leaves of the tree, whatever is known of the sink: the result of these commands; or of a first part of them, where it was cut short
abbrev pub CarriesOut : {T : Type 0} → List Change → Result T RecordFault → Store → Store → Type 0
CarriesOut cs (Ok x) m n = n ≡ stored m cs
CarriesOut cs (Err fault) m n = IsPartDone cs m n

-- ---- the first line and the end line

abbrev pub Begins : {T : Type 0} → Version → Result T RecordFault → SinkContents → SinkContents → Type 0
Begins version (Ok done) w x = (m : Store) → IsRecorded version [] w x m m
Begins version (Err failed) w x = (cs : List Change) (m : Store) → LeavesOpen version cs w x m m

-- the end line of a log of so many commands
abbrev pub Closes : {T : Type 0} → ℕ → Result T RecordFault → SinkContents → SinkContents → Type 0
Closes count (Ok done) x y =
    (version : Version) (cs : List Change) (w : SinkContents) (m n : Store) → length cs ≡ count → IsRecorded version cs w x m n → IsClosed version cs w y m n
Closes count (Err fault) x y =
    (version : Version) (cs : List Change) (w : SinkContents) (m n : Store) → length cs ≡ count → IsRecorded version cs w x m n → LeavesOpen version cs w y m n
