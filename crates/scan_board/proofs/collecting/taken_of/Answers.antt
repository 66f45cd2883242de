use Rattle.std.proofs.Common.{◌≡◌, ◌≤◌, ◌<◌, ◌-◌, ◌++◌, ℕ, suc, ap, subst, ◌∙◌, sym, refl, arith, length}
use Rattle.std.specs.List.{slice_get}
use Rattle.std.specs.Option.{option_and_then}
use Rattle.std.proofs.lemmas.List.{append-nil}
use Rattle.std.proofs.lemmas.Option.{slice_get_read}
use Rattle.pref_list.specs.Picks.{command_of}
use Rattle.scan_board.specs.Boards.{taken_cards}
use Rattle.scan_board.proofs.Keys.{pick_is_one}
use Rattle.scan_board.proofs.TakenCards.{taken_next}
use Rattle.scan_board.proofs.collecting.taken_of.Goals as goal

pub add_taken-requires : goal.add_taken-requires
add_taken-requires c =
    let low : c.numbers.number - 1 < length c.args.numbers.now.picks.items = omega (arith, c.numbers.invariant.0, c.requires.many, c.numbers-test.true) in
    pick_is_one c.args.joint.now.sets c.args.numbers.now.picks.items c.requires.least (c.numbers.number - 1) c.index-pick.result.now
    (slice_get_read c.args.numbers.now.picks.items (length c.args.numbers.now.picks.items) (c.numbers.number - 1) c.index-pick.result.now refl low c.index-pick.ensures)

pub numbers-preserved : goal.numbers-preserved
numbers-preserved c =
    let low : c.numbers.number - 1 < length c.args.numbers.now.picks.items = omega (arith, c.numbers.invariant.0, c.requires.many, c.numbers-test.true) in
    let here = slice_get_read c.args.numbers.now.picks.items (length c.args.numbers.now.picks.items) (c.numbers.number - 1) c.index-pick.result.now refl low c.index-pick.ensures in
    let own = c.requires.least (c.numbers.number - 1) c.index-pick.result.now here in
    let next : c.numbers.number ≡ suc (c.numbers.number - 1) = omega (arith, c.numbers-test.true) in (
      omega (arith, c.numbers.invariant.0),
      taken_next c.args.joint.now.sets c.args.numbers.now.picks.items c.args.cards.now (c.numbers.number - 1) c.numbers.commands.items c.add_taken.new.commands.items
          (taken_cards c.args.joint.now.sets c.args.numbers.now.picks.items c.args.cards.now (length c.args.cards.now)) own.0
          (subst (λ (n : ℕ). c.numbers.commands.items ++ taken_cards c.args.joint.now.sets c.args.numbers.now.picks.items c.args.cards.now n ≡ taken_cards c.args.joint.now.sets c.args.numbers.now.picks.items c.args.cards.now (length c.args.cards.now)) next c.numbers.invariant.1)
          (ap (option_and_then (command_of c.args.joint.now.sets)) here ∙ own.1) (c.in_ok-add_taken.ensures own.0 own.1),
    )

pub returns : goal.returns
returns c =
    let none : c.numbers.number ≡ 0 = omega (arith, c.numbers-test.false) in
    sym (append-nil c.numbers.commands.items) ∙ subst (λ (n : ℕ). c.numbers.commands.items ++ taken_cards c.args.joint.now.sets c.args.numbers.now.picks.items c.args.cards.now n ≡ taken_cards c.args.joint.now.sets c.args.numbers.now.picks.items c.args.cards.now (length c.args.cards.now)) none c.numbers.invariant.1
