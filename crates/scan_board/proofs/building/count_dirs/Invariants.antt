use Rattle.scan_board.proofs.DirCounts.{IsCounted}
use Rattle.scan_board.proofs.building.count_dirs.Given as goal

abbrev pub invariant-cards : goal.invariant-cards
invariant-cards l = IsCounted l.cards l.dirs.items l.total l.number
