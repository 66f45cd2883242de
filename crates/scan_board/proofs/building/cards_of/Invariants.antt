use Rattle.scan_board.specs.declared.board.Card.{Card}
use Rattle.scan_board.specs.Columns.{IsColumn}
use Rattle.scan_board.specs.Built.{IsCard}
use Rattle.scan_board.specs.Boards.{no_card}
use Rattle.scan_board.proofs.building.cards_of.Given as goal

abbrev pub invariant-numbers : goal.invariant-numbers
invariant-numbers l = IsColumn {A = Card} l.cards.items no_card (IsCard l.joint l.naming) l.number
