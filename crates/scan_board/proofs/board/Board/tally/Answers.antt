use Rattle.std.proofs.Common.{◌≡◌, ap, ◌∙◌, slice_set}
use Rattle.scan_board.specs.Tables.{State, IsBoard}
use Rattle.scan_board.specs.Inside.{state_of}
use Rattle.scan_board.proofs.Written.{tallied, board_tallied}
use Rattle.scan_board.proofs.board.Board.tally.Goals as goal

pub invariant_of-self : goal.invariant_of-self
invariant_of-self g c = (
  board_tallied (state_of c.self.inside.numbers c.self.inside.cards.items c.self.inside.spots.items c.self.inside.pile.items)
      (state_of c.self.inside.numbers c.self.inside.cards.items (slice_set c.self.inside.spots.items c.args.node (record { starts = c.index.result.now.starts; parent = c.index.result.now.parent; first_child = c.index.result.now.first_child; next_child = c.index.result.now.next_child; first = c.index.result.now.first; tally = c.args.value })) c.self.inside.pile.items)
      c.args.node c.args.value c.self.invariant.0
      (tallied c.self.inside.numbers c.self.inside.cards.items c.self.inside.spots.items c.self.inside.pile.items c.args.node c.index.result.now c.args.value c.index.ensures),
  c.self.invariant.1,
)

pub returns-clause-written : goal.returns-clause-written
returns-clause-written g c = tallied c.self.inside.numbers c.self.inside.cards.items c.self.inside.spots.items c.self.inside.pile.items c.args.node c.index.result.now c.args.value c.index.ensures
    ∙ ap (λ (s : State). record s { dirs = slice_set s.dirs c.args.node c.args.value.dirs; shut = slice_set s.shut c.args.node c.args.value.shut; bare = slice_set s.bare c.args.node c.args.value.bare }) c.self.view_is

pub returns-clause-board : goal.returns-clause-board
returns-clause-board g c = board_tallied (state_of c.self.inside.numbers c.self.inside.cards.items c.self.inside.spots.items c.self.inside.pile.items)
    (state_of c.self.inside.numbers c.self.inside.cards.items (slice_set c.self.inside.spots.items c.args.node (record { starts = c.index.result.now.starts; parent = c.index.result.now.parent; first_child = c.index.result.now.first_child; next_child = c.index.result.now.next_child; first = c.index.result.now.first; tally = c.args.value })) c.self.inside.pile.items)
    c.args.node c.args.value c.self.invariant.0
    (tallied c.self.inside.numbers c.self.inside.cards.items c.self.inside.spots.items c.self.inside.pile.items c.args.node c.index.result.now c.args.value c.index.ensures)
