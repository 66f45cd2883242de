use Rattle.std.proofs.Common.{length}
use Rattle.canon_set.proofs.table.Table.+raise.Given as goal

abbrev pub decreases-raise : goal.decreases-raise
decreases-raise l = length l.way.now
