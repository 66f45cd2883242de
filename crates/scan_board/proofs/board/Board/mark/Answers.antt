use Rattle.std.proofs.Common.{◌≡◌, ◌≤◌, ◌*◌, arith, ap, ◌∙◌, length, slice_set, length-set}
use Rattle.std.specs.Prelude.{vec_capacity}
use Rattle.scan_board.specs.Tables.{State, IsBoard}
use Rattle.scan_board.specs.Inside.{state_of}
use Rattle.scan_board.specs.declared.board.Card.{Card}
use Rattle.scan_board.proofs.Written.{marked, board_marked}
use Rattle.scan_board.proofs.board.Board.mark.Goals as goal

pub invariant_of-self : goal.invariant_of-self
invariant_of-self g c =
    let card : Card = record { node = c.index.result.now.node; leaves = c.index.result.now.leaves; next = c.index.result.now.next; mark = c.args.mark } in
    let is = marked c.self.inside.numbers c.self.inside.cards.items c.self.inside.spots.items c.self.inside.pile.items c.args.command c.index.result.now c.args.mark c.index.ensures in
    let long : length (slice_set c.self.inside.cards.items c.args.command card) ≡ length c.self.inside.cards.items = length-set c.self.inside.cards.items c.args.command card in
    let space : 4 * length c.self.inside.cards.items ≤ vec_capacity c.self.inside.pile = c.self.invariant.1 in (
      board_marked (state_of c.self.inside.numbers c.self.inside.cards.items c.self.inside.spots.items c.self.inside.pile.items)
          (state_of c.self.inside.numbers (slice_set c.self.inside.cards.items c.args.command card) c.self.inside.spots.items c.self.inside.pile.items) c.args.command c.args.mark c.self.invariant.0 is,
      omega arith,
    )

pub returns-clause-written : goal.returns-clause-written
returns-clause-written g c = marked c.self.inside.numbers c.self.inside.cards.items c.self.inside.spots.items c.self.inside.pile.items c.args.command c.index.result.now c.args.mark c.index.ensures ∙ ap (λ (s : State). record s { marks = slice_set s.marks c.args.command c.args.mark }) c.self.view_is

pub returns-clause-board : goal.returns-clause-board
returns-clause-board g c = board_marked (state_of c.self.inside.numbers c.self.inside.cards.items c.self.inside.spots.items c.self.inside.pile.items)
    (state_of c.self.inside.numbers (slice_set c.self.inside.cards.items c.args.command (record { node = c.index.result.now.node; leaves = c.index.result.now.leaves; next = c.index.result.now.next; mark = c.args.mark })) c.self.inside.spots.items c.self.inside.pile.items) c.args.command c.args.mark c.self.invariant.0
    (marked c.self.inside.numbers c.self.inside.cards.items c.self.inside.spots.items c.self.inside.pile.items c.args.command c.index.result.now c.args.mark c.index.ensures)
