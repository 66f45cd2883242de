-- The logs of a job: what their files have, and what a program makes of their commands as they come.
use Rattle.std.specs.Prelude.{◌≡◌, ℕ, List, [], length, nat_lt, Option, None, Some, Result, Ok, Err, if◌then◌else◌}
use Rattle.std.specs.List.{AllByRecursion}
use Rattle.sync_path.specs.Paths.{parts}
use Rattle.sync_command.specs.Changes.{Change}
use Rattle.sync_command.specs.declared.values.Version.{Version}
use Rattle.sync_command.specs.declared.values.Version.TheVariants.{One, Two}
use Rattle.canon_set.specs.Logs.{IsBrokenAt}
use Rattle.canon_set.specs.Sums.{Sum, StandsFor}
use Rattle.log_text.specs.declared.faults.TextFault.{TextFault}
use Rattle.log_text.specs.LogPieces.{HasRead, waiting_of}
use Rattle.log_text.specs.Logs.{IsOfVersion, log_of}
use Rattle.log_text.specs.declared.reader.LogReader.{LogReader}
use Rattle.treesync.specs.Checks.{Check, Judged, Then}
use Rattle.treesync.specs.Files.{IsFile}
use Rattle.treesync.specs.declared.logs.Allowance.{Allowance}
use Rattle.treesync.specs.declared.logs.LogFile.{LogFile}
use Rattle.treesync.specs.declared.logs.Total.{Total}
use Rattle.treesync.specs.declared.refusal.Refusal.{Refusal}
use Rattle.treesync.specs.declared.refusal.Refusal.TheVariants.{Found}
use Rattle.treesync.specs.declared.refusal.Finding.TheVariants.{TooLarge, Text}

-- ---- a log's file

-- the number of its bytes, its version and its commands
pub record ReadLog : Type 0 where
  pub size : ℕ
  pub version : Version
  pub commands : List Change

-- version 2 wherever one of the two is
abbrev pub later_version : Version → Version → Version
later_version One v = v
later_version Two v = Two

-- what a log's text reads as where so many commands are left for it, or what is wrong with it
abbrev pub log_answer : ℕ → ℕ → ℕ → Result (Version × List Change) TextFault → Result ReadLog Refusal
log_answer most word size (Ok (version, cs)) =
    if nat_lt most (length cs) then Err (Found (TooLarge word)) else Ok (record { size = size; version = version; commands = cs })
log_answer most word size (Err fault) = Err (Found (Text word fault))

-- a log within the bytes and the commands that are left for it
abbrev pub IsLog : Allowance → ℕ → List ℕ → Check ReadLog
IsLog allowance word name =
    Then (IsFile allowance.bytes word name) (λ bytes. Judged (λ answer. answer ≡ log_answer allowance.commands word (length bytes) (log_of (parts 10 bytes))))

-- ---- what is made of the commands as they come

-- the sum of a log, or the number of the command up to which no tree takes it
abbrev pub IsTotalOf : Option ℕ → Sum → List Change → Type 0
IsTotalOf None sum cs = StandsFor sum cs
IsTotalOf (Some number) sum cs = IsBrokenAt cs number

abbrev pub IsTotal : Total → List Change → Type 0
IsTotal total cs = IsTotalOf total.broken total.sum cs

-- what was read stands for what the file has; `stands` says what was made of the commands
pub record IsLogFile {T : Type 0} (stands : T → List Change → Type 0) (log : LogFile T) (read : ReadLog) : Type 0 where
  pub size : log.size ≡ read.size
  pub version : log.version ≡ read.version
  pub count : log.count ≡ length read.commands
  pub commands : stands log.commands read.commands
  pub printable : AllByRecursion (IsOfVersion read.version) read.commands

-- ---- a log that is being read

-- the reader was fed the text, and the commands taken from it were handed on
pub record HoldsLog {T : Type 0} (stands : T → List Change → Type 0) (reader : LogReader) (into : T) (text : List ℕ) : Type 0 where
  pub taken : List Change
  pub read : HasRead reader text taken
  pub commands : stands into taken

-- and no complete command waits
pub record IsFed {T : Type 0} (stands : T → List Change → Type 0) (reader : LogReader) (into : T) (text : List ℕ) : Type 0 where
  pub holds : HoldsLog stands reader into text
  pub waiting : waiting_of reader ≡ []
