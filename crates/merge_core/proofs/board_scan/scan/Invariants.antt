use Rattle.merge_core.proofs.Greedily.{IsScan}
use Rattle.merge_core.proofs.RankedBoards.{numbers_by}
use Rattle.merge_core.proofs.board_scan.scan.Given as goal

abbrev pub invariant-ranking : goal.invariant-ranking
invariant-ranking g l = IsScan l.fn.board l.board (numbers_by l.fn.board.tables l.ranking) l.at l.fn.steps l.steps
