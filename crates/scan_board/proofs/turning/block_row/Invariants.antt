use Rattle.std.proofs.Common.{◌-◌, length}
use Rattle.std.specs.Prelude.{unwrap_or}
use Rattle.scan_board.specs.Settling.{IsDirsRight}
use Rattle.scan_board.proofs.Walking.{IsRowWalk}
use Rattle.scan_board.proofs.turning.block_row.Given as goal

abbrev pub invariant-loop-next : goal.invariant-loop-next
invariant-loop-next g l = IsRowWalk l.fn.board l.board l.node l.rule l.next l.fn.steps l.steps × (IsDirsRight l.fn.board → IsDirsRight l.board)

abbrev pub decreases-loop-next : goal.decreases-loop-next
decreases-loop-next g l = length l.board.tables.nodes - unwrap_or l.next (length l.board.tables.nodes)
