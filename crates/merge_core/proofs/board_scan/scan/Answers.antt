use Rattle.std.proofs.Common.{◌≡◌, ◌<◌, ◌≤◌, sym, subst, arith, length}
use Rattle.std.specs.Prelude.{IsTrue, is_some}
use Rattle.scan_board.specs.Tables.{Tables, number_at}
use Rattle.scan_board.specs.Settling.{IsMade}
use Rattle.merge_core.proofs.Greedily.{scan_step, scan_start, scan_cost}
use Rattle.merge_core.proofs.RankedBoards.{numbers_by, pick_placed}
use Rattle.merge_core.proofs.ScannedBoards.{made_for, step_for, scanned_for, cost_for}
use Rattle.merge_core.proofs.board_scan.scan.Goals as goal

pub ranking-init : goal.ranking-init
ranking-init g c = scan_start c.args.board (numbers_by c.args.board.tables c.args.ranking.now) c.args.steps.now c.requires.settled c.requires.fresh

pub turn-requires-clause-place : goal.turn-requires-clause-place
turn-requires-clause-place g c = let w = c.requires.ranking in
    subst (λ (b : Tables). IsTrue (is_some (number_at b c.entry-pick.result.log c.entry-pick.result.place))) (sym c.ranking.invariant.tables)
    (pick_placed w.0 c.args.board.tables w.3.back w.3.is w.1 c.args.ranking.now w.4 c.ranking.at c.entry-pick.result c.entry-pick.ensures)

pub turn-requires-clause-made : goal.turn-requires-clause-made
turn-requires-clause-made g c = let w = c.requires.ranking in subst (λ (b : Tables). IsMade b) (sym c.ranking.invariant.tables) (made_for w.0 c.args.board.tables w.2 w.3)

pub ranking-preserved : goal.ranking-preserved
ranking-preserved g c = let w = c.requires.ranking in
    step_for w.0 w.1 c.args.board c.ranking.board c.turn.new.board c.args.ranking.now c.ranking.at c.args.steps.now c.ranking.steps c.turn.new.steps w.3 w.4 c.entry-pick.result c.entry-pick.ensures c.ranking.invariant
    c.turn.ensures.settled c.turn.ensures.tables c.turn.ensures.kept c.turn.ensures.others c.turn.ensures.stays c.turn.ensures.taken c.turn.ensures.steps

pub returns-clause-scanned : goal.returns-clause-scanned
returns-clause-scanned g c j rules of is = scanned_for j rules c.args.board c.ranking.board c.args.ranking.now c.ranking.at c.args.steps.now c.ranking.steps of is (let n = c.len-at-end.ensures in omega arith) c.ranking.invariant

pub returns-clause-steps : goal.returns-clause-steps
returns-clause-steps g c = let w = c.requires.ranking in cost_for w.0 w.1 c.args.board c.ranking.board c.args.ranking.now c.ranking.at c.args.steps.now c.ranking.steps w.3 w.4 (omega arith) c.ranking.invariant
