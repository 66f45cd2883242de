use Rattle.scan_board.specs.Named.{IsNamed}
use Rattle.scan_board.proofs.naming.name.Given as goal

abbrev pub invariant-loop-q : goal.invariant-loop-q
invariant-loop-q l = IsNamed l.heads l.index.items l.back.items l.q
