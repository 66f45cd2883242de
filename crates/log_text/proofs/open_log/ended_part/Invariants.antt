use Rattle.std.proofs.Common.{◌≡◌, ◌≤◌, length, take}
use Rattle.log_text.specs.OpenLogs.{ended_part}
use Rattle.log_text.proofs.open_log.ended_part.Given as goal

abbrev pub invariant-bytes : goal.invariant-bytes
invariant-bytes l = record {
  within : l.end ≤ length l.text;
  same : ended_part l.text ≡ ended_part (take l.end l.text);
}

abbrev pub decreases-bytes : goal.decreases-bytes
decreases-bytes l = l.end
