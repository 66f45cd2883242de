use Rattle.std.proofs.Common.{◌-◌, ◌+◌, vec_len}
use Rattle.tree_port.proofs.host.contents.read_bytes.Given as goal

abbrev pub decreases-pieces : goal.decreases-pieces
decreases-pieces g l = l.limit + 1 - vec_len l.bytes
