use Rattle.merge_core.proofs.ScannedBoards.{settled_new}
use Rattle.merge_core.proofs.laws.new_board_is_settled.Goals as goal

pub returns : goal.returns
returns c = settled_new
