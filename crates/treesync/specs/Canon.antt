-- The answer of `canon LOG`: the net set of the log, or the command up to which no tree takes it.
use Rattle.std.specs.Prelude.{◌≡◌, ℕ, List, Result, Ok, Err}
use Rattle.canon_set.specs.Logs.{IsBrokenAt, IsTaken, net}
use Rattle.canon_set.specs.Sets.{canonical}
use Rattle.log_text.specs.Logs.{log_text}
use Rattle.treesync.specs.Checks.{Check, Judged, Then}
use Rattle.treesync.specs.Logs.{IsLog, ReadLog}
use Rattle.treesync.specs.declared.logs.TheConstants.{FULL_ALLOWANCE}
use Rattle.treesync.specs.declared.refusal.Refusal.{Refusal}
use Rattle.treesync.specs.declared.refusal.Refusal.TheVariants.{Found}
use Rattle.treesync.specs.declared.refusal.Finding.TheVariants.{NoTree}

-- the text of the net set in the admissible order, of the log's version, where some tree takes the log; or the number of the command up to which none does
abbrev pub IsNet : ℕ → ReadLog → Result (List ℕ) Refusal → Type 0
IsNet word log (Ok text) = IsTaken log.commands × (text ≡ log_text log.version (canonical (net log.commands)))
IsNet word log (Err r) = (number : ℕ) × (r ≡ Found (NoTree word number)) × IsBrokenAt log.commands number

abbrev pub IsCanon : ℕ → List ℕ → Check (List ℕ)
IsCanon word name = Then (IsLog FULL_ALLOWANCE word name) (λ log. Judged (IsNet word log))
