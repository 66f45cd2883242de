-- The answer of `drill SEED LOGS STEPS`: the summary, which no file has a part in.
use Rattle.std.specs.Prelude.{ℕ, List, Result, Ok, Err}
use Rattle.sync_drill.specs.Summaries.{IsDrillText}
use Rattle.treesync.specs.Checks.{Check, Judged}
use Rattle.treesync.specs.declared.refusal.Refusal.{Refusal}

-- no drill is refused
abbrev pub IsDrillOf : ℕ → ℕ → ℕ → Result (List ℕ) Refusal → Type 0
IsDrillOf seed logs steps (Ok text) = IsDrillText seed logs steps text
IsDrillOf seed logs steps (Err r) = ⊥

abbrev pub IsDrill : ℕ → ℕ → ℕ → Check (List ℕ)
IsDrill seed logs steps = Judged (IsDrillOf seed logs steps)
