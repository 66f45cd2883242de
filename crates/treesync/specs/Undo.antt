-- The answer of `undo SET`: what leads back from the net set of SET, or the command up to which no tree takes SET.
use Rattle.std.specs.Prelude.{◌≡◌, ℕ, List, Result, Ok}
use Rattle.log_text.specs.Logs.{log_text}
use Rattle.rounds.specs.Compositions.{inverse_set}
use Rattle.treesync.specs.Checks.{Check, Judged, Next, Then}
use Rattle.treesync.specs.Logs.{IsLog, ReadLog}
use Rattle.treesync.specs.Steer.{IsNetSet}
use Rattle.treesync.specs.declared.logs.TheConstants.{FULL_ALLOWANCE}
use Rattle.treesync.specs.declared.refusal.Refusal.{Refusal}

-- the text of the inverse of the log's net set, of the log's version
abbrev pub IsUndoing : ℕ → ReadLog → Result (List ℕ) Refusal → Type 0
IsUndoing word log = Next (IsNetSet word log) (λ set answer. answer ≡ Ok (log_text log.version (inverse_set set)))

abbrev pub IsUndo : ℕ → List ℕ → Check (List ℕ)
IsUndo word name = Then (IsLog FULL_ALLOWANCE word name) (λ log. Judged (IsUndoing word log))
