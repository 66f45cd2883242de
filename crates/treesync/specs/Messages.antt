-- The status of each refusal, and its line on the error sink.
use Rattle.std.specs.Prelude.{ℕ, ◌+◌, List, [], ◌∷◌, ◌++◌, codes, decimal}
use Rattle.std.specs.List.{concat}
use Rattle.sync_path.specs.Paths.{Node, path_text}
use Rattle.treesync.specs.declared.refusal.Refusal.{Refusal}
use Rattle.treesync.specs.declared.refusal.Refusal.TheVariants.{InvalidArguments, OutOfMemory, CallFailed, Found}
use Rattle.treesync.specs.declared.refusal.Failure.{Failure}
use Rattle.treesync.specs.declared.refusal.Failure.TheVariants.{ReadFailed, TreeFailed, TreeDenied}
use Rattle.treesync.specs.declared.refusal.Finding.{Finding}
use Rattle.treesync.specs.declared.refusal.Finding.TheVariants.{TooLarge, Text, NoTree, NoCommonTree, NoSuchLog, NoCommand, Diverged, Blocked, NotDrawn, DoesNotFit, CanAdd, OpRefused, NoFollow, NotTaken}
use Rattle.treesync.specs.declared.report.Line.{Line}
use Rattle.treesync.specs.declared.report.Line.TheVariants as line
use Rattle.tool_words.specs.Operands.{text_at}
use Rattle.log_text.specs.declared.faults.TextKind.{TextKind}
use Rattle.log_text.specs.declared.faults.TextKind.TheVariants as kind
use Rattle.record_core.specs.declared.faults.Why.{Why}
use Rattle.record_core.specs.declared.faults.Why.TheVariants as why

abbrev pub finding_status : Finding → ℕ
finding_status (Text word fault) = 5
finding_status (NoTree word number) = 6
finding_status (NoCommonTree first second path) = 7
finding_status (Diverged word path) = 8
finding_status (Blocked word path) = 9
finding_status (TooLarge word) = 12
finding_status (NoSuchLog word number) = 13
finding_status (NoCommand word number) = 13
finding_status (NotDrawn word path) = 14
finding_status (DoesNotFit word path) = 14
finding_status (CanAdd word log path) = 14
finding_status (OpRefused word number why) = 15
finding_status (NotTaken word number) = 17
finding_status (NoFollow word path) = 18

abbrev pub failure_status : Failure → ℕ
failure_status (ReadFailed word) = 3
failure_status (TreeFailed word) = 10
failure_status (TreeDenied word) = 11

abbrev pub status_of : Refusal → ℕ
status_of InvalidArguments = 2
status_of (CallFailed failure) = failure_status failure
status_of OutOfMemory = 16
status_of (Found finding) = finding_status finding

-- how the kind of a fault is printed
abbrev pub kind_name : TextKind → List ℕ
kind_name kind.Header = codes "header"
kind_name kind.Fields = codes "fields"
kind_name kind.TooMany = codes "too-many"
kind_name kind.TooWide = codes "too-wide"
kind_name kind.Number = codes "number"
kind_name kind.Path = codes "path"
kind_name kind.Value = codes "value"
kind_name kind.Same = codes "same"
kind_name kind.Empty = codes "empty"
kind_name kind.Order = codes "order"
kind_name kind.Parent = codes "parent"
kind_name kind.End = codes "end"
kind_name kind.Count = codes "count"
kind_name kind.After = codes "after"

-- why an operation is refused
abbrev pub why_name : Why → List ℕ
why_name why.Missing = codes "missing"
why_name why.Exists = codes "exists"
why_name why.NoParent = codes "no-parent"
why_name why.IsDir = codes "is-dir"
why_name why.NotEmpty = codes "not-empty"
why_name why.Inside = codes "inside"
why_name why.TooDeep = codes "too-deep"
why_name why.NotDir = codes "not-dir"
why_name why.Labelled = codes "labelled"

-- `treesync: WHAT`
abbrev pub what_line : List ℕ → List ℕ
what_line what = concat (codes "treesync: " ∷ what ∷ codes "\n" ∷ [])

-- `treesync: WORD: WHAT`
abbrev pub file_line : List ℕ → List ℕ → List ℕ
file_line word what = concat (codes "treesync: " ∷ word ∷ codes ": " ∷ what ∷ codes "\n" ∷ [])

-- `treesync: WORD: line NUMBER: WHAT`
abbrev pub numbered_line : List ℕ → List ℕ → List ℕ → List ℕ
numbered_line word number what = concat (codes "treesync: " ∷ word ∷ codes ": line " ∷ number ∷ codes ": " ∷ what ∷ codes "\n" ∷ [])

-- a line that ends with a path
abbrev pub line_at : List (List ℕ) → Node → List ℕ
line_at prefix path = concat prefix ++ (path_text path ++ codes "\n")

-- `treesync: logs FIRST and SECOND: no common tree at PATH`
abbrev pub disagreement_line : ℕ → ℕ → Node → List ℕ
disagreement_line first second path =
    line_at (codes "treesync: " ∷ codes "logs " ∷ decimal first ∷ codes " and " ∷ decimal second ∷ codes ": " ∷ codes "no common tree at " ∷ []) path

-- `treesync: WORD: WHAT PATH`
abbrev pub path_line : List ℕ → List ℕ → Node → List ℕ
path_line word what path = line_at (codes "treesync: " ∷ word ∷ codes ": " ∷ what ∷ []) path

-- `treesync: WORD: can add log LOG at PATH`
abbrev pub can_add_line : List ℕ → ℕ → Node → List ℕ
can_add_line word log path = line_at (codes "treesync: " ∷ word ∷ codes ": " ∷ codes "can add log " ∷ decimal log ∷ codes " at " ∷ []) path

-- the whole line, from what it says
abbrev pub line_text : List (List ℕ) → Line → List ℕ
line_text words (line.OfFile word what) = file_line (text_at words word) what.now
line_text words (line.OfLine word number what) = numbered_line (text_at words word) (decimal number) what.now
line_text words (line.OfPath word what path) = path_line (text_at words word) what.now path.now
line_text words (line.OfLogs first second path) = disagreement_line first second path.now
line_text words (line.CanAdd word log path) = can_add_line (text_at words word) log path.now

-- the line of a finding; a log's command, a rule and an operation are one line after their number
abbrev pub finding_message : List (List ℕ) → Finding → List ℕ
finding_message words (TooLarge word) = file_line (text_at words word) (codes "too large")
finding_message words (Text word fault) = numbered_line (text_at words word) (decimal fault.line) (kind_name fault.kind)
finding_message words (NoTree word number) = numbered_line (text_at words word) (decimal (number + 1)) (codes "no tree takes this log")
finding_message words (NoCommonTree first second path) = disagreement_line first second path
finding_message words (NoSuchLog word number) = numbered_line (text_at words word) (decimal (number + 1)) (codes "no such log")
finding_message words (NoCommand word number) = numbered_line (text_at words word) (decimal (number + 1)) (codes "no such command")
finding_message words (Diverged word path) = path_line (text_at words word) (codes "diverged at ") path
finding_message words (Blocked word path) = path_line (text_at words word) (codes "blocked at ") path
finding_message words (NotDrawn word path) = path_line (text_at words word) (codes "not drawn at ") path
finding_message words (DoesNotFit word path) = path_line (text_at words word) (codes "does not fit at ") path
finding_message words (NoFollow word path) = path_line (text_at words word) (codes "does not follow at ") path
finding_message words (CanAdd word log path) = can_add_line (text_at words word) log path
finding_message words (OpRefused word number why) = numbered_line (text_at words word) (decimal (number + 1)) (why_name why)
finding_message words (NotTaken word number) = numbered_line (text_at words word) (decimal (number + 1)) (codes "not taken")

-- the line of a call that was refused
abbrev pub failure_message : List (List ℕ) → Failure → List ℕ
failure_message words (ReadFailed word) = file_line (text_at words word) (codes "read failed")
failure_message words (TreeFailed word) = file_line (text_at words word) (codes "tree failed")
failure_message words (TreeDenied word) = file_line (text_at words word) (codes "tree denied")

abbrev pub message_of : List (List ℕ) → Refusal → List ℕ
message_of words InvalidArguments = what_line (codes "words refused")
message_of words (CallFailed failure) = failure_message words failure
message_of words OutOfMemory = what_line (codes "out of memory")
message_of words (Found finding) = finding_message words finding
