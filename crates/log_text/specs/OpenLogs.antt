-- A log that may have lost its end.
use Rattle.std.specs.Prelude.{◌≡◌, ℕ, Bool, nat_lt, List, [], ◌∷◌, if◌then◌else◌, unwrap_or, MatchBool, IsErr, Ok}
use Rattle.sync_path.specs.Paths.{parts}
use Rattle.sync_command.specs.declared.values.Version.{Version}
use Rattle.sync_command.specs.declared.values.Version.TheVariants.{One}
use Rattle.sync_command.specs.Changes.{Change}
use Rattle.log_text.specs.declared.faults.TextFault.{TextFault}
use Rattle.log_text.specs.declared.faults.LogFault.{LogFault}
use Rattle.log_text.specs.declared.faults.LogFault.TheVariants as fault
use Rattle.log_text.specs.Logs.{log_of}
use Rattle.log_text.specs.Pieces.{line_feeds}
use Rattle.log_text.specs.LogPieces.{IsShownLog, complete, version_in}

-- the bytes up to the last line feed
unfoldable pub ended_part : List ℕ → List ℕ
ended_part [] = []
ended_part (b ∷ bytes) = if nat_lt 0 (line_feeds (b ∷ bytes)) then b ∷ ended_part bytes else []

-- What an open log holds whose ended lines are these: no line has a fault, and these commands are
-- complete. It is a whole log exactly where the right end line is there; with no line at all it is
-- an empty log of version 1.
pub record IsOpenLog (lines : List ℕ) (version : Version) (commands : List Change) (ended : Bool) : Type 0 where
  pub first : version ≡ unwrap_or (version_in lines) One
  pub complete_commands : complete lines ≡ commands
  pub right : (f : TextFault) → IsShownLog lines f → ⊥
  pub end : MatchBool ended (log_of (parts 10 lines) ≡ Ok (version, commands)) (IsErr (log_of (parts 10 lines)))

-- the fault is that of the first of the ended lines that has one, or memory ran out
abbrev pub FailsOpenLog : List ℕ → LogFault → Type 0
FailsOpenLog lines (fault.Text f) = IsShownLog lines f
FailsOpenLog lines fault.Memory = Unit {0}
