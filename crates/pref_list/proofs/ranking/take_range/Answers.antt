use Rattle.std.proofs.Common.{arith, subst, sym, ap, ◌∙◌, ◌<◌, length, get_or}
use Rattle.pref_list.specs.Ranking.{set_of}
use Rattle.pref_list.specs.Numbers.{AreNumbersOf}
use Rattle.pref_list.specs.Orders.{Takes}
use Rattle.pref_list.proofs.Ordering.{own_numbers, number_low, take_one_more}
use Rattle.pref_list.proofs.ranking.take_range.Goals as goal

pub take-requires-clause-number : goal.take-requires-clause-number
take-requires-clause-number c = subst (λ l. get_or c.as_slice-own.result.now c.places.place 0 < length l) (sym c.deref.ensures.value)
    (number_low c.args.joint.now.sets c.args.numbers.now.picks.items (set_of c.args.joint.now.sets c.args.log) c.as_slice-own.result.now c.places.place
    (subst (AreNumbersOf c.args.joint.now.sets c.args.numbers.now.picks.items (set_of c.args.joint.now.sets c.args.log)) (sym c.as_slice-own.ensures.value)
    (own_numbers _ _ _ c.args.log _ c.requires.numbered c.requires.log.0 c.requires.log.1 c.index.ensures)) (let r = c.requires.range in omega arith))

pub places-preserved : goal.places-preserved
places-preserved c = take_one_more c.args.joint.now.sets c.args.numbers.now.picks.items c.args.numbers.now.lists.items (set_of c.args.joint.now.sets c.args.log) c.as_slice-own.result.now _ _ _ _ _ _ c.args.from c.places.place
    c.requires.numbered
    (subst (AreNumbersOf c.args.joint.now.sets c.args.numbers.now.picks.items (set_of c.args.joint.now.sets c.args.log)) (sym c.as_slice-own.ensures.value)
    (own_numbers _ _ _ c.args.log _ c.requires.numbered c.requires.log.0 c.requires.log.1 c.index.ensures))
    (let r = c.requires.range in omega arith) (omega arith) c.places.invariant (c.in_ok-take.ensures.seen ∙ ap length c.deref.ensures.value)
    (subst (λ l. Takes l c.places.order.seen.items c.places.order.picks.items c.take.new.order.seen.items c.take.new.order.picks.items (get_or c.as_slice-own.result.now c.places.place 0)) c.deref.ensures.value c.in_ok-take.ensures.taken)
