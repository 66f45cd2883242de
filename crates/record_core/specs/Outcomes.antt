-- How the recording of a script ends, and what it leaves.
use Rattle.std.specs.Prelude.{◌≡◌, ◌⊎◌, ◌+◌, ℕ, List, [], ◌∷◌, ◌++◌, length, if◌then◌else◌, Result, Ok, Err}
use Rattle.sync_command.specs.declared.values.Version.{Version}
use Rattle.sync_command.specs.Changes.{Change}
use Rattle.sync_command.specs.Maps.{Store, stored}
use Rattle.sync_port.specs.Ports.{SinkContents}
use Rattle.record_core.specs.declared.faults.RecordFault.{RecordFault}
use Rattle.record_core.specs.declared.faults.RecordFault.TheVariants.{OpRefused, TreeFailed, TreeDenied, WriteFault, TooLarge, Memory}
use Rattle.record_core.specs.declared.faults.Why.{Why}
use Rattle.record_core.specs.declared.ops.Op.{Op}
use Rattle.record_core.specs.Meanings.{meaning, nodes_of}
use Rattle.record_core.specs.Recording.{Closes, IsClosed, IsPartDone, IsRecorded, LeavesOpen}
use Rattle.record_core.specs.declared.log_size.LogSize.{LogSize}
use Rattle.record_core.specs.Plans.{IsSizeOf}
use Rattle.record_core.specs.Texts.{is_within}

-- it ends after the last operation, at the one of this number, which is refused, or at one that is too large
pub data End : Type 0 where
  AtEnd : End
  Refused : ℕ → Why → End
  Large : End

-- the commands of the operations before its end, and the end
pub record Outcome : Type 0 where
  pub commands : List Change
  pub end : End

-- what an operation adds to the commands before it
abbrev pub goes_on : Version → List Change → ℕ → Result (List Change) Why → (List Change → Outcome) → Outcome
goes_on version done number (Err why) later = record { commands = done; end = Refused number why }
goes_on version done number (Ok cs) later = if is_within version (done ++ cs) then later (done ++ cs) else record { commands = done; end = Large }

-- the operations one after another, each on the result of those before, up to the first that is refused or too large
unfoldable pub outcome_from : Version → Store → List Change → ℕ → List Op → Outcome
outcome_from version m done number [] = record { commands = done; end = AtEnd }
outcome_from version m done number (op ∷ ops) =
    goes_on version done number (meaning version (nodes_of (stored m done)) op) (λ cs. outcome_from version m cs (number + 1) ops)

-- the outcome of a script on a tree; its operations count from 1
abbrev pub outcome_of : Version → Store → List Op → Outcome
outcome_of version m script = outcome_from version m [] 1 script

-- what is recorded where a script ends, and how large it is
pub record IsReached (version : Version) (run : Outcome) (end : End) (size : LogSize) (Recorded : List Change → Type 0) : Type 0 where
  pub ends : run.end ≡ end
  pub recorded : Recorded run.commands
  pub sized : IsSizeOf version run.commands size

-- What the operations of a script answer, after the first line: by `Recorded` of the commands before its end, and by `Cut` of those where
-- it was cut short.
abbrev pub AnswersOps : Version → Outcome → LogSize → Result (Unit {0}) RecordFault → (List Change → Type 0) → (List Change → Type 0) → Type 0
AnswersOps version run size (Ok u) Recorded Cut = IsReached version run AtEnd size Recorded
AnswersOps version run size (Err (OpRefused number why)) Recorded Cut = IsReached version run (Refused number why) size Recorded
AnswersOps version run size (Err TooLarge) Recorded Cut = IsReached version run Large size Recorded
AnswersOps version run size (Err TreeDenied) Recorded Cut = ⊥
AnswersOps version run size (Err TreeFailed) Recorded Cut = Cut run.commands
AnswersOps version run size (Err WriteFault) Recorded Cut = Cut run.commands
AnswersOps version run size (Err Memory) Recorded Cut = Cut run.commands

-- where sink and tree are known
abbrev pub OpsGoOn : Version → List Op → LogSize → LogSize → Result (Unit {0}) RecordFault → SinkContents → SinkContents → Store → Store → Type 0
OpsGoOn version script size next result x y m n =
    (w : SinkContents) → IsRecorded version [] w x m m → IsSizeOf version [] size →
    AnswersOps version (outcome_of version m script) next result (λ cs. IsRecorded version cs w y m n) (λ cs. LeavesOpen version cs w y m n)

-- where the tree is known, whatever is known of the sink
abbrev pub CarriesOutOps : Version → List Op → LogSize → LogSize → Result (Unit {0}) RecordFault → Store → Store → Type 0
CarriesOutOps version script size next result m n =
    IsSizeOf version [] size → AnswersOps version (outcome_of version m script) next result (λ cs. n ≡ stored m cs) (λ cs. IsPartDone cs m n)

-- the fault that is answered for another one, when the log was closed where an operation was refused or too large: the same, or that of the end line
abbrev pub AnswersAfter : RecordFault → RecordFault → Type 0
AnswersAfter (OpRefused number why) fault = (fault ≡ OpRefused number why) ⊎ ((fault ≡ WriteFault) ⊎ (fault ≡ Memory))
AnswersAfter TooLarge fault = (fault ≡ TooLarge) ⊎ ((fault ≡ WriteFault) ⊎ (fault ≡ Memory))
AnswersAfter TreeDenied fault = fault ≡ TreeDenied
AnswersAfter TreeFailed fault = fault ≡ TreeFailed
AnswersAfter WriteFault fault = fault ≡ WriteFault
AnswersAfter Memory fault = fault ≡ Memory

-- the end line was written after a refusal, or it failed
abbrev pub EndsRefused : ℕ → RecordFault → RecordFault → SinkContents → SinkContents → Type 0
EndsRefused count was fault x y =
    ((fault ≡ was) × Closes {T = Unit {0}} count (Ok tt) x y) ⊎ (((fault ≡ WriteFault) ⊎ (fault ≡ Memory)) × Closes {T = Unit {0}} count (Err fault) x y)

-- the log is closed where an operation was refused or too large, or that failed; nothing more is written after any other fault
abbrev pub ClosesAfter : ℕ → RecordFault → RecordFault → SinkContents → SinkContents → Type 0
ClosesAfter count (OpRefused number why) fault x y = EndsRefused count (OpRefused number why) fault x y
ClosesAfter count TooLarge fault x y = EndsRefused count TooLarge fault x y
ClosesAfter count TreeDenied fault x y = (fault ≡ TreeDenied) × (y ≡ x)
ClosesAfter count TreeFailed fault x y = (fault ≡ TreeFailed) × (y ≡ x)
ClosesAfter count WriteFault fault x y = (fault ≡ WriteFault) × (y ≡ x)
ClosesAfter count Memory fault x y = (fault ≡ Memory) × (y ≡ x)

-- What a recording of a script answers: by `Closed` of the commands before its end, where all of these were carried out, and by `Cut` of
-- them, where it was cut short.
abbrev pub AnswersScript : Outcome → Result ℕ RecordFault → (List Change → Type 0) → (List Change → Type 0) → Type 0
AnswersScript run (Ok count) Closed Cut = (run.end ≡ AtEnd) × ((count ≡ length run.commands) × Closed run.commands)
AnswersScript run (Err (OpRefused number why)) Closed Cut = (run.end ≡ Refused number why) × Closed run.commands
AnswersScript run (Err TooLarge) Closed Cut = (run.end ≡ Large) × Closed run.commands
AnswersScript run (Err TreeDenied) Closed Cut = ⊥
AnswersScript run (Err TreeFailed) Closed Cut = Cut run.commands
AnswersScript run (Err WriteFault) Closed Cut = Cut run.commands
AnswersScript run (Err Memory) Closed Cut = Cut run.commands

-- What it answers and leaves, where sink and tree are known. The log is closed after the last operation, after a refused one and before one
-- that is too large; otherwise it is left open.
abbrev pub RecordsScript : Version → List Op → Result ℕ RecordFault → SinkContents → SinkContents → Store → Store → Type 0
RecordsScript version script result w x m n =
    AnswersScript (outcome_of version m script) result (λ cs. IsClosed version cs w x m n) (λ cs. LeavesOpen version cs w x m n)

-- What it answers and leaves of a tree that is known, whatever is known of the sink. The tree is the result of the commands before the
-- script's end; or of a first part of them, after a fault of the tree or the sink and where memory ran out.
abbrev pub CarriesOutScript : Version → List Op → Result ℕ RecordFault → Store → Store → Type 0
CarriesOutScript version script result m n = AnswersScript (outcome_of version m script) result (λ cs. n ≡ stored m cs) (λ cs. IsPartDone cs m n)

-- the same after the first line was written, where sink and tree are known
abbrev pub ScriptGoesOn : Version → List Op → Result ℕ RecordFault → SinkContents → SinkContents → Store → Store → Type 0
ScriptGoesOn version script result x y m n = (w : SinkContents) → IsRecorded version [] w x m m → RecordsScript version script result w y m n
