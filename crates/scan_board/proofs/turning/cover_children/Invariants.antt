use Rattle.std.proofs.Common.{◌-◌}
use Rattle.std.specs.Prelude.{unwrap_or}
use Rattle.scan_board.specs.Tables.{node_count}
use Rattle.scan_board.proofs.Walking.{IsCoverWalk}
use Rattle.scan_board.proofs.Closing.{IsChildWalk}
use Rattle.scan_board.proofs.Sound.{IsOnlyWalk}
use Rattle.scan_board.proofs.turning.cover_children.Given as goal

abbrev pub invariant-loop-next : goal.invariant-loop-next
invariant-loop-next g l = IsCoverWalk l.fn.board l.board l.node l.next l.fn.steps l.steps × IsChildWalk l.fn.board l.board l.node l.next × IsOnlyWalk l.fn.board l.board l.node

abbrev pub decreases-loop-next : goal.decreases-loop-next
decreases-loop-next g l = node_count l.board.tables - unwrap_or l.next (node_count l.board.tables)
