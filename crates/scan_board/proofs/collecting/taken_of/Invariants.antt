use Rattle.std.proofs.Common.{◌≡◌, ◌≤◌, ◌++◌, length}
use Rattle.scan_board.specs.Boards.{taken_cards}
use Rattle.scan_board.proofs.collecting.taken_of.Given as goal

abbrev pub invariant-numbers : goal.invariant-numbers
invariant-numbers l = (l.number ≤ length l.cards) × (l.commands.items ++ taken_cards l.joint.sets l.numbers.picks.items l.cards l.number ≡ taken_cards l.joint.sets l.numbers.picks.items l.cards (length l.cards))

abbrev pub decreases-numbers : goal.decreases-numbers
decreases-numbers l = l.number
