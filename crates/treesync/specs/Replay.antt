-- The answer of `replay SNAP LOG`: the snapshot after the log, or the first command that its tree does not take.
use Rattle.std.specs.Prelude.{◌≡◌, ℕ, List, Result, Ok, Err}
use Rattle.sync_command.specs.declared.commands.Row.{Row}
use Rattle.sync_command.specs.declared.values.Version.{Version}
use Rattle.sync_command.specs.Changes.{Change}
use Rattle.sync_command.specs.Trees.{Takes}
use Rattle.sync_command.specs.Maps.{Store, at, stored}
use Rattle.apply_model.specs.Entries.{store_of, rows_of}
use Rattle.apply_model.specs.Replays.{BreaksOff}
use Rattle.apply_model.specs.declared.faults.RunBreak.{RunBreak}
use Rattle.apply_model.specs.declared.faults.RunBreak.TheVariants as run
use Rattle.log_text.specs.Snapshots.{snapshot_text}
use Rattle.treesync.specs.Checks.{Check, Judged, Then}
use Rattle.treesync.specs.Files.{IsSnapshot}
use Rattle.treesync.specs.Logs.{IsLog, ReadLog, later_version}
use Rattle.treesync.specs.declared.logs.TheConstants.{FULL_ALLOWANCE}
use Rattle.treesync.specs.declared.refusal.Refusal.{Refusal}
use Rattle.treesync.specs.declared.refusal.Refusal.TheVariants.{OutOfMemory, Found}
use Rattle.treesync.specs.declared.refusal.Finding.TheVariants.{NotTaken}

-- the command with the number is the first that is not applicable in its turn
abbrev pub IsRefusedAt : Store → List Change → ℕ → Type 0
IsRefusedAt m cs number = (left : Store) × BreaksOff m cs left (run.NotTaken number)

-- the text of the log's result on the snapshot's tree, where that tree takes the log; or the number of the first command that it does not take
abbrev pub IsAfter : ℕ → Version × List Row → ReadLog → Result (List ℕ) Refusal → Type 0
IsAfter word (version, rows) log (Ok text) =
    Takes (at (store_of rows)) log.commands
    × (text ≡ snapshot_text (later_version version log.version) (rows_of (stored (store_of rows) log.commands)))
IsAfter word (version, rows) log (Err r) = (number : ℕ) × (r ≡ Found (NotTaken word number)) × IsRefusedAt (store_of rows) log.commands number

abbrev pub IsReplay : ℕ → List ℕ → ℕ → List ℕ → Check (List ℕ)
IsReplay snap_word snap log_word log = Then (IsSnapshot snap_word snap) (λ snapshot. Then (IsLog FULL_ALLOWANCE log_word log) (λ read. Judged (IsAfter log_word snapshot read)))

-- what a log that broke off is refused with
abbrev pub run_refusal : ℕ → RunBreak → Refusal
run_refusal word (run.NotTaken number) = Found (NotTaken word number)
run_refusal word (run.Memory number) = OutOfMemory
