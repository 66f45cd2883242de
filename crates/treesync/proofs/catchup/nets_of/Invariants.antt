use Rattle.std.proofs.Common.{◌≡◌, length}
use Rattle.treesync.proofs.Catching.{NetsSoFar}
use Rattle.treesync.proofs.catchup.nets_of.Given as goal

abbrev pub invariant-sums : goal.invariant-sums
invariant-sums l = record {
  many : length l.sets.items ≡ length l.yielded;
  nets : NetsSoFar l.fn.sums.items (length l.yielded) l.sets.items;
}
