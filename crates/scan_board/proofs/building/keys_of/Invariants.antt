use Rattle.std.proofs.Common.{ℕ, Option, None}
use Rattle.scan_board.specs.Columns.{IsColumn}
use Rattle.scan_board.specs.Built.{IsKey}
use Rattle.scan_board.proofs.building.keys_of.Given as goal

abbrev pub invariant-numbers : goal.invariant-numbers
invariant-numbers l = IsColumn {A = Option ℕ} l.keys.items None (IsKey l.joint l.numbers.picks.items) l.number
