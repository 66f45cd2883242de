-- The answer of `record FOLDER SCRIPT`: the script in SCRIPT is carried out on the tree in FOLDER, and the log of what it
-- changes is written, each line before its change.
use Rattle.std.specs.Prelude.{◌≡◌, ℕ, List, Vec, ⊤, Option, None, Some, Result, Ok, Err, IsErrOf}
use Rattle.std.specs.Global.{Global}
use Rattle.sync_path.specs.Paths.{parts}
use Rattle.sync_command.specs.declared.values.Version.{Version}
use Rattle.sync_command.specs.Maps.{Store}
use Rattle.sync_port.specs.Ports.{SinkState}
use Rattle.tree_port.specs.States.{IfTreeKnown, TreeState, WhereKnown}
use Rattle.record_core.specs.Outcomes.{AtEnd, CarriesOutScript, End, Large, Outcome, RecordsScript, Refused, outcome_of}
use Rattle.record_core.specs.Recording.{HasCause, IfBothKnown}
use Rattle.record_core.specs.Scripts.{script_of}
use Rattle.record_core.specs.Texts.{closed_text}
use Rattle.record_core.specs.declared.faults.RecordFault.{RecordFault}
use Rattle.record_core.specs.declared.faults.RecordFault.TheVariants as fault
use Rattle.record_core.specs.declared.ops.Op.{Op}
use Rattle.tool_words.specs.Words.{Operand}
use Rattle.treesync.specs.Checks.{Check, Judged, Then}
use Rattle.treesync.specs.Files.{IsFile, text_answer}
use Rattle.treesync.specs.declared.input.TheConstants.{FILE_LIMIT}
use Rattle.treesync.specs.declared.refusal.Refusal.{Refusal}
use Rattle.treesync.specs.declared.refusal.Refusal.TheVariants.{OutOfMemory, CallFailed, Found}
use Rattle.treesync.specs.declared.refusal.Failure.TheVariants.{TreeFailed, TreeDenied}
use Rattle.treesync.specs.declared.refusal.Finding.TheVariants.{OpRefused, TooLarge}

-- ---- the script

-- a version and operations
abbrev pub Script : Type 0
Script = Version × List Op

-- they stand for the same with a list
abbrev pub HasOps : Version × Vec Op Global → Script → Type 0
HasOps read script = (read.0, read.1.items) ≡ script

-- the script of the file that a word names
abbrev pub IsScript : Operand → Check Script
IsScript file =
    Then (IsFile FILE_LIMIT file.place file.text) (λ bytes. Judged (λ answer. answer ≡ text_answer file.place (script_of (parts 10 bytes))))

-- ---- refusals

-- What a recording that ended early means, of the tree that one word names and the script that another one names. A line
-- that could not be written is no refusal: it ends a recording as it ends all printing.
abbrev pub record_refusal : ℕ → ℕ → RecordFault → Option Refusal
record_refusal folder word (fault.OpRefused number why) = Some (Found (OpRefused word number why))
record_refusal folder word fault.TreeFailed = Some (CallFailed (TreeFailed folder))
record_refusal folder word fault.TreeDenied = Some (CallFailed (TreeDenied folder))
record_refusal folder word fault.WriteFault = None
record_refusal folder word fault.TooLarge = Some (Found (TooLarge word))
record_refusal folder word fault.Memory = Some OutOfMemory

-- ---- which answers are right

-- the text of the whole log, or why the script ends early
abbrev pub ended_text : ℕ → List ℕ → End → Result (List ℕ) Refusal
ended_text word text AtEnd = Ok text
ended_text word text (Refused number why) = Err (Found (OpRefused word number why))
ended_text word text Large = Err (Found (TooLarge word))

abbrev pub recorded_text : ℕ → Version → Outcome → Result (List ℕ) Refusal
recorded_text word version run = ended_text word (closed_text version run.commands) run.end

-- on a tree that is known; nothing is said of another one
abbrev pub IsRecordedText : ℕ → Option Store → Script → Result (List ℕ) Refusal → Type 0
IsRecordedText word None script answer = ⊤
IsRecordedText word (Some m) script answer = answer ≡ recorded_text word script.0 (outcome_of script.0 m script.1)

abbrev pub IsRecord : Operand → Option Store → Check (List ℕ)
IsRecord file tree = Then (IsScript file) (λ script. Judged (IsRecordedText file.place tree script))

-- ---- what functions owe

-- What recording a script on a tree answers and leaves: each fault was counted, a tree that is known denies nothing and is
-- what the answer says, and so is the sink where it is known too.
pub record RecordsOnTree (script : Script) (result : Result ℕ RecordFault) (x y : SinkState) (t u : TreeState) : Type 0 where
  pub cause : HasCause result x y t u
  pub never_denied : WhereKnown t (λ m. IsErrOf result fault.TreeDenied → ⊥)
  pub carried_out : IfTreeKnown t u (CarriesOutScript script.0 script.1 result)
  pub recorded : IfBothKnown x y t u (RecordsScript script.0 script.1 result)
