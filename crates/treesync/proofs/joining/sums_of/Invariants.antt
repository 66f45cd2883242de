use Rattle.std.proofs.Common.{◌≡◌, length}
use Rattle.treesync.proofs.JoinLemmas.{SumsSoFar}
use Rattle.treesync.proofs.joining.sums_of.Given as goal

abbrev pub invariant-logs : goal.invariant-logs
invariant-logs l = record {
  many : length l.sums.items ≡ length l.yielded;
  sums : SumsSoFar l.fn.logs.items (length l.yielded) l.sums.items;
}
