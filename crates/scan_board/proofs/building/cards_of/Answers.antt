use Rattle.std.proofs.Common.{◌≡◌, ◌<◌, ℕ, refl, ap, sym, subst, ◌∙◌, List, Option, None, arith, length}
use Rattle.std.proofs.lemmas.Option.{slice_get_read}
use Rattle.sync_command.specs.Values.{kind_of}
use Rattle.scan_board.specs.declared.board.Mark.TheVariants.{Open}
use Rattle.scan_board.specs.Linked.{IsOptionWithin, option_at, through}
use Rattle.scan_board.proofs.Keys.{pick_is_one, own_key, index_long, keys_long, option_within, read, card_next}
use Rattle.scan_board.proofs.building.cards_of.Goals as goal

pub command_at-command-requires : goal.command_at-command-requires
command_at-command-requires c =
    let low : c.numbers.number < length c.args.naming.now.numbers.picks.items = omega (arith, c.numbers-test.true, c.len-count.ensures, c.args.naming.now.numbers.picks.ok.0) in
    pick_is_one c.args.joint.now.sets c.args.naming.now.numbers.picks.items c.requires.numbers.least c.numbers.number c.index.result.now (slice_get_read c.args.naming.now.numbers.picks.items (length c.args.naming.now.numbers.picks.items) c.numbers.number c.index.result.now refl low c.index.ensures)

pub through-requires : goal.through-requires
through-requires c =
    let low : c.numbers.number < length c.args.naming.now.numbers.picks.items = omega (arith, c.numbers-test.true, c.len-count.ensures, c.args.naming.now.numbers.picks.ok.0) in
    let k = own_key c.args.joint.now c.args.naming.now c.requires c.numbers.number low in
    let is = read c.args.naming.now.keys.items c.numbers.number c.index-in-numbers.result.now None (rw (keys_long c.args.joint.now c.args.naming.now c.requires) low) c.index-in-numbers.ensures in
    option_within c.index-in-numbers.result.now k.0 (length c.deref.result.now) (is ∙ k.1) (rw (ap length c.deref.ensures.value ∙ index_long c.args.joint.now c.args.naming.now c.requires) k.2)

pub numbers-preserved : goal.numbers-preserved
numbers-preserved c =
    let low : c.numbers.number < length c.args.naming.now.numbers.picks.items = omega (arith, c.numbers-test.true, c.len-count.ensures, c.args.naming.now.numbers.picks.ok.0) in
    let low2 : c.numbers.number < length c.args.naming.now.keys.items = rw (keys_long c.args.joint.now c.args.naming.now c.requires) low in
    card_next c.args.joint.now c.args.naming.now c.numbers.cards.items c.push.new.self.items c.numbers.number c.index.result.now c.command_at-command.result.now
    (record { node = c.unwrap_or-node.result; leaves = c.kind.result; next = c.index-in-numbers-2.result.now; mark = Open }) c.index-in-numbers.result.now c.through.result c.index-in-numbers-2.result.now c.numbers.invariant
    (slice_get_read c.args.naming.now.numbers.picks.items (length c.args.naming.now.numbers.picks.items) c.numbers.number c.index.result.now refl low c.index.ensures) c.command_at-command.ensures
    c.unwrap_or-node.ensures (c.through.ensures ∙ ap (λ (l : List (Option ℕ)). through l c.index-in-numbers.result.now) c.deref.ensures.value)
    (read c.args.naming.now.keys.items c.numbers.number c.index-in-numbers.result.now None low2 c.index-in-numbers.ensures)
    (c.kind.ensures ∙ ap kind_of c.new_value.ensures) refl
    (read c.args.naming.now.rows.nexts.items c.numbers.number c.index-in-numbers-2.result.now None (rw c.requires.rows.nexts_len low2) c.index-in-numbers-2.ensures) refl c.in_ok-push.ensures.items
