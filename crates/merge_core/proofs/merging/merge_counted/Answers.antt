use Rattle.std.proofs.Common.{◌≤◌, ◌+◌, ◌*◌, arith, length, ap, subst, sym}
use Rattle.refluent.specs.Drawn.{drawn_of}
use Rattle.scan_board.specs.Tables.{Tables, command_count}
use Rattle.scan_board.specs.Boards.{IsBoardOf}
use Rattle.merge_core.proofs.TakenSets.{count_drawn}
use Rattle.merge_core.proofs.merging.merge_counted.Goals as goal

pub scan-requires-clause-ranking : goal.scan-requires-clause-ranking
scan-requires-clause-ranking g c = (c.args.joint.now, c.requires.0, c.in_ok-board.ensures.joint, c.in_ok-board.ensures.of, c.requires.1)

pub returns-clause-joint : goal.returns-clause-joint
returns-clause-joint g c = c.in_ok-board.ensures.joint

pub returns-clause-board : goal.returns-clause-board
returns-clause-board g c = subst (λ (b : Tables). IsBoardOf c.args.joint.now b) (sym c.scan.ensures.tables) c.in_ok-board.ensures.of

pub returns-clause-scanned : goal.returns-clause-scanned
returns-clause-scanned g c rules is = c.scan.ensures.scanned c.args.joint.now rules c.in_ok-board.ensures.of is

pub returns-clause-steps : goal.returns-clause-steps
returns-clause-steps g c =
    let few : command_count c.in_ok-board.board.tables ≤ length (drawn_of c.args.joint.now.sets) = count_drawn c.args.joint.now c.in_ok-board.board.tables c.in_ok-board.ensures.of in
    omega (arith, few, c.scan.ensures.steps)
