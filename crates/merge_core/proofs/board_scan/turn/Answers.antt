use Rattle.merge_core.proofs.ScannedBoards.{made_for, settled_on, turned_for}
use Rattle.merge_core.proofs.board_scan.turn.Goals as goal

pub turn-requires-clause-made : goal.turn-requires-clause-made
turn-requires-clause-made g c = let w = c.requires.settled in made_for w.0 c.args.board.now.tables w.1 w.2

pub turn-requires-clause-settled : goal.turn-requires-clause-settled
turn-requires-clause-settled g c = let w = c.requires.settled in settled_on w.0 c.args.board.now w.1 w.2 w.3

pub returns-clause-settled : goal.returns-clause-settled
returns-clause-settled g c j joint of old = turned_for j c.args.board.now c.turn.new.board c.args.log c.args.place of c.requires.place c.turn.ensures.tables c.turn.ensures.settled c.turn.ensures.others c.turn.ensures.stays old
