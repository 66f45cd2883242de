use Rattle.std.proofs.Common.{◌≡◌, ◌+◌, drop}
use Rattle.sync_drill.proofs.Counting.{counts_of}
use Rattle.sync_drill.proofs.counts.count_commands.Given as goal

abbrev pub invariant-sums : goal.invariant-sums
invariant-sums l = l.count + counts_of (drop l.sum-index l.sums) ≡ counts_of l.sums
