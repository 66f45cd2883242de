use Rattle.std.proofs.Common.{◌≡◌, ◌+◌, length}
use Rattle.clash_list.specs.ClashLists.{clashes}
use Rattle.sync_drill.proofs.counts.count_clashes.Given as goal

abbrev pub invariant-clashes : goal.invariant-clashes
invariant-clashes l = l.count + length l.clashes ≡ length (clashes l.joint)

abbrev pub decreases-clashes : goal.decreases-clashes
decreases-clashes l = length l.clashes
