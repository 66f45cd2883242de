use Rattle.std.proofs.Common.{length}
use Rattle.tree_port.proofs.host.contents.has_bytes.Given as goal

abbrev pub decreases-pieces : goal.decreases-pieces
decreases-pieces g l = length l.rest
