use Rattle.std.proofs.Common.{IsTrue, subst, sym}
use Rattle.sync_command.specs.Trees.{one_each}
use Rattle.canon_set.specs.Sets.{IsFitting}
use Rattle.scan_board.specs.Tables.{State}
use Rattle.scan_board.specs.Boards.{IsBoardOf, taken_commands}
use Rattle.merge_core.proofs.TakenSets.{taken_one, taken_fitting, first_ok}
use Rattle.merge_core.proofs.merging.merge_in.Goals as goal

pub taken-requires-clause-of : goal.taken-requires-clause-of
taken-requires-clause-of g c = subst (λ (s : State). IsBoardOf c.args.joint.now s.tables) (sym c.board.ensures) c.in_ok-scanned.ensures.board

pub taken-requires-clause-one : goal.taken-requires-clause-one
taken-requires-clause-one g c = subst (λ (s : State). IsTrue (one_each (taken_commands c.args.joint.now.sets s))) (sym c.board.ensures)
    (taken_one c.args.joint.now c.requires.ranking.0 c.in_ok-scanned.scanned c.in_ok-scanned.ensures.board (c.in_ok-scanned.ensures.scanned c.requires.ranking.0 c.requires.ranking.1) c.in_ok-scanned.ensures.joint)

pub taken-requires-clause-fitting : goal.taken-requires-clause-fitting
taken-requires-clause-fitting g c = subst (λ (s : State). IsFitting (taken_commands c.args.joint.now.sets s)) (sym c.board.ensures)
    (taken_fitting c.args.joint.now c.requires.ranking.0 c.in_ok-scanned.scanned c.in_ok-scanned.ensures.board (c.in_ok-scanned.ensures.scanned c.requires.ranking.0 c.requires.ranking.1) c.in_ok-scanned.ensures.joint)

pub returns : goal.returns
returns g c rules is = first_ok c.args.joint.now rules c.in_ok-scanned.scanned c.board.result.now c.in_ok-scanned.ensures.board (c.in_ok-scanned.ensures.scanned rules is) c.board.ensures c.taken.result c.taken.ensures
