use Rattle.scan_board.specs.declared.board.Spot.{Spot}
use Rattle.scan_board.specs.Columns.{IsColumn}
use Rattle.scan_board.specs.Built.{IsSpot, no_spot}
use Rattle.scan_board.proofs.building.spots_of.Given as goal

abbrev pub invariant-nodes : goal.invariant-nodes
invariant-nodes l = IsColumn {A = Spot} l.spots.items no_spot (IsSpot l.joint l.naming l.families l.dirs) l.node
