-- The checks of one file: that it is held, its size, and its text.
use Rattle.std.specs.Prelude.{Vec, ◌≡◌, ℕ, List, true, false, Option, None, Some, Result, Ok, Err, length, nat_lt, if◌then◌else◌}
use Rattle.sync_path.specs.Paths.{parts}
use Rattle.sync_command.specs.declared.commands.Row.{Row}
use Rattle.sync_command.specs.declared.values.Version.{Version}
use Rattle.log_text.specs.declared.faults.LogFault.{LogFault}
use Rattle.log_text.specs.declared.faults.LogFault.TheVariants as log
use Rattle.log_text.specs.declared.faults.TextFault.{TextFault}
use Rattle.log_text.specs.Snapshots.{snapshot_of}
use Rattle.treesync.specs.Checks.{Check, Judged, Then}
use Rattle.treesync.specs.declared.input.TheConstants.{FILE_LIMIT}
use Rattle.treesync.specs.declared.refusal.Refusal.{Refusal}
use Rattle.treesync.specs.declared.refusal.Refusal.TheVariants.{OutOfMemory, CallFailed, Found}
use Rattle.treesync.specs.declared.refusal.Failure.TheVariants.{ReadFailed}
use Rattle.sync_port.specs.declared.faults.PortFault.{PortFault}
use Rattle.sync_port.specs.declared.faults.PortFault.TheVariants.{Failed}
use Rattle.sync_port.specs.declared.faults.PortFault.TheVariants as port
use Rattle.treesync.specs.declared.refusal.Finding.TheVariants.{TooLarge, Text}

-- the bytes of the file that a word names, up to the limit
abbrev pub file_answer : ℕ → ℕ → Option (List ℕ) → Result (List ℕ) Refusal
file_answer limit word None = Err (CallFailed (ReadFailed word))
file_answer limit word (Some bytes) = if nat_lt limit (length bytes) then Err (Found (TooLarge word)) else Ok bytes

-- where a call fails, the reading of the file is refused
abbrev pub IsFile : ℕ → ℕ → List ℕ → Check (List ℕ)
IsFile limit word name held false answer = answer ≡ file_answer limit word (held name)
IsFile limit word name held true answer = answer ≡ Err (CallFailed (ReadFailed word))

-- what a text reads as, or the fault of the file that a word names
abbrev pub text_answer : {A : Type 0} → ℕ → Result A TextFault → Result A Refusal
text_answer word (Ok a) = Ok a
text_answer word (Err fault) = Err (Found (Text word fault))

-- what a refused call on the file means
abbrev pub call_refusal : ℕ → PortFault → Refusal
call_refusal word Failed = CallFailed (ReadFailed word)
call_refusal word port.Memory = OutOfMemory

-- what a fault of the text means
abbrev pub text_refusal : ℕ → LogFault → Refusal
text_refusal word (log.Text fault) = Found (Text word fault)
text_refusal word log.Memory = OutOfMemory

-- a version and rows stand for the same with a list
abbrev pub HasRows : {A : Type 0} → Version × Vec Row A → Version × List Row → Type 0
HasRows snapshot read = (snapshot.0, snapshot.1.items) ≡ read

-- the version and the rows of a snapshot's file
abbrev pub IsSnapshot : ℕ → List ℕ → Check (Version × List Row)
IsSnapshot word name =
    Then (IsFile FILE_LIMIT word name) (λ bytes. Judged (λ answer. answer ≡ text_answer word (snapshot_of (parts 10 bytes))))
