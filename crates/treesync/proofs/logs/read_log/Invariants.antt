use Rattle.std.proofs.Common.{◌≡◌, ◌+◌, ◌-◌, ◌≤◌, ℕ, List, length}
use Rattle.treesync.specs.Logs.{IsFed}
use Rattle.treesync.proofs.FileReading.{IsReading}
use Rattle.treesync.proofs.logs.read_log.Given as goal

abbrev pub invariant-pieces : goal.invariant-pieces
invariant-pieces g l = record {
  within : l.size ≤ l.allowance.bytes + 1;
  read : (text : List ℕ) × (length text ≡ l.size) × IsFed g.T.TakesCommands.stands l.intake.reader l.intake.into text
      × IsReading l.name text (g.F.Files.files l.fn.files) (g.F.Files.files l.files);
}

abbrev pub decreases-pieces : goal.decreases-pieces
decreases-pieces g l = l.allowance.bytes + 1 - l.size
