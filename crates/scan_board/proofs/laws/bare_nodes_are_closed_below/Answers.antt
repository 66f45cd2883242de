use Rattle.scan_board.proofs.Settling.{bare_is_deep}
use Rattle.scan_board.proofs.laws.bare_nodes_are_closed_below.Goals as goal

pub returns : goal.returns
returns c = bare_is_deep
