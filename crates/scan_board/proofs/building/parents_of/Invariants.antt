use Rattle.std.proofs.Common.{ℕ, Option, None}
use Rattle.scan_board.specs.Columns.{IsColumn}
use Rattle.scan_board.specs.Built.{IsUp}
use Rattle.scan_board.proofs.building.parents_of.Given as goal

abbrev pub invariant-nodes : goal.invariant-nodes
invariant-nodes l = IsColumn {A = Option ℕ} l.parents.items None (IsUp l.joint l.naming) l.node
