use Rattle.std.proofs.Common.{◌≤◌, length}
use Rattle.scan_board.specs.Linked.{IsLinked}
use Rattle.scan_board.proofs.chains.chain.Given as goal

abbrev pub invariant-loop-i : goal.invariant-loop-i
invariant-loop-i l = (l.i ≤ length l.keys) × IsLinked l.keys l.buckets l.heads.items l.nexts.items l.i

abbrev pub decreases-loop-i : goal.decreases-loop-i
decreases-loop-i l = l.i
