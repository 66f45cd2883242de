use Rattle.scan_board.specs.Turns.{height}
use Rattle.scan_board.proofs.Walking.{IsShutWalk}
use Rattle.scan_board.specs.Settling.{IsUpWalk}
use Rattle.scan_board.proofs.Shutting.{IsShutWay}
use Rattle.scan_board.proofs.turning.shut_up.Given as goal

abbrev pub invariant-loop-at : goal.invariant-loop-at
invariant-loop-at g l = IsShutWalk l.fn.board l.board l.at l.fn.steps l.steps × IsShutWay l.fn.board l.board l.fn.from l.at × IsUpWalk l.fn.board l.board l.fn.from

abbrev pub decreases-loop-at : goal.decreases-loop-at
decreases-loop-at g l = height l.at
