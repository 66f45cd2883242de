use Rattle.std.proofs.Common.{◌+◌, length}
use Rattle.scan_board.specs.Tables.{covered}
use Rattle.scan_board.proofs.Walking.{IsDownWalk}
use Rattle.scan_board.specs.Settling.{IsSoundDown}
use Rattle.scan_board.proofs.Closing.{IsCovered}
use Rattle.scan_board.proofs.turning.bare_down.Given as goal

abbrev pub invariant-loop-top : goal.invariant-loop-top
invariant-loop-top g l = IsDownWalk l.fn.board l.board l.fn.steps l.steps × IsCovered l.fn.board l.board l.node × IsSoundDown l.fn.board l.board l.node

abbrev pub decreases-loop-top : goal.decreases-loop-top
decreases-loop-top g l = length l.board.pile + covered l.board
