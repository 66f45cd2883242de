use Rattle.std.proofs.Common.{◌≡◌, IfOk, IsTrue, List, subst, sym}
use Rattle.sync_command.specs.Changes.{Change}
use Rattle.sync_command.specs.Trees.{one_each}
use Rattle.canon_set.specs.Sets.{IsFitting, canonical}
use Rattle.pref_list.specs.Numbers.{AreLeast}
use Rattle.scan_board.specs.Tables.{State}
use Rattle.scan_board.proofs.TakenCards.{taken_is, many_is}
use Rattle.scan_board.proofs.board.Board.taken.Goals as goal

pub taken_of-requires-clause-least : goal.taken_of-requires-clause-least
taken_of-requires-clause-least g c = subst (λ (s : State). AreLeast c.args.joint.now.sets s.tables.numbers.picks.items) (sym c.self.view_is) c.requires.of.is.numbers.least

pub taken_of-requires-clause-many : goal.taken_of-requires-clause-many
taken_of-requires-clause-many g c = many_is c.self.inside.numbers c.self.inside.cards.items c.deref.result.now c.self.inside.spots.items c.self.inside.pile.items c.args.self.now c.deref.ensures.value c.self.view_is c.requires.of.is.commands

pub from_parts-requires-clause-one : goal.from_parts-requires-clause-one
from_parts-requires-clause-one g c = subst (λ (l : List Change). IsTrue (one_each l))
    (sym (taken_is c.args.joint.now.sets c.self.inside.numbers c.self.inside.cards.items c.deref.result.now c.self.inside.spots.items c.self.inside.pile.items c.args.self.now c.in_ok-commands.commands.items c.deref.ensures.value c.self.view_is c.in_ok-commands.ensures)) c.requires.one

pub from_parts-requires-clause-fitting : goal.from_parts-requires-clause-fitting
from_parts-requires-clause-fitting g c = subst (λ (l : List Change). IsFitting l)
    (sym (taken_is c.args.joint.now.sets c.self.inside.numbers c.self.inside.cards.items c.deref.result.now c.self.inside.spots.items c.self.inside.pile.items c.args.self.now c.in_ok-commands.commands.items c.deref.ensures.value c.self.view_is c.in_ok-commands.ensures)) c.requires.fitting

pub returns : goal.returns
returns g c = subst (λ (l : List Change). IfOk c.from_parts.result (λ set. set ≡ canonical l))
    (taken_is c.args.joint.now.sets c.self.inside.numbers c.self.inside.cards.items c.deref.result.now c.self.inside.spots.items c.self.inside.pile.items c.args.self.now c.in_ok-commands.commands.items c.deref.ensures.value c.self.view_is c.in_ok-commands.ensures) c.from_parts.ensures
