use Rattle.std.proofs.Common.{arith}
use Rattle.refluent.proofs.Numbered.{add_down, add_space, add_more, add_none, group_low, log_few, drawn_low, if_repeated, if_new}
use Rattle.refluent.proofs.numbering.Numbering.add.Goals as goal

pub next_place-at-requires-clause-some_down : goal.next_place-at-requires-clause-some_down
next_place-at-requires-clause-some_down c = add_down c.args.claims.now c.requires.ordered c.args.place c.index-claims-place.result (group_low _ _ _ c.requires.group c.requires.high) c.index-claims-place.is c.args.self.now c.requires.so_far c.change_of.result c.change_of.ensures c.in-Some.is_down c.in-Some.is

pub next_place-at-requires-clause-space : goal.next_place-at-requires-clause-space
next_place-at-requires-clause-space c e = let h = add_space c.args.claims.now c.requires.ordered c.args.place c.index-claims-place.result (group_low _ _ _ c.requires.group c.requires.high) c.index-claims-place.is c.args.self.now c.requires.so_far c.change_of.result c.change_of.ensures c.in-Some.is_down c.in-Some.is e in omega (arith, h)

pub overflow_cast-claim : goal.overflow_cast-claim
overflow_cast-claim c = let h = log_few c.args.claims.now c.args.place c.index-claims-place.result (group_low _ _ _ c.requires.group c.requires.high) c.index-claims-place.is c.args.self.now c.requires.so_far c.requires.few in omega (arith, h)

pub overflow_add-claim : goal.overflow_add-claim
overflow_add-claim c = let h = log_few c.args.claims.now c.args.place c.index-claims-place.result (group_low _ _ _ c.requires.group c.requires.high) c.index-claims-place.is c.args.self.now c.requires.so_far c.requires.few in omega (arith, h)

pub overflow_add-self : goal.overflow_add-self
overflow_add-self c = let h = drawn_low c.args.claims.now c.args.place c.args.self.now c.requires.so_far in let l = group_low c.args.claims.now c.args.group c.args.place c.requires.group c.requires.high in omega (arith, h, l)

pub returns-then-not-is_repeated-clause-numbered : goal.returns-then-not-is_repeated-clause-numbered
returns-then-not-is_repeated-clause-numbered c = add_more c.args.claims.now c.requires.ordered c.args.place c.index-claims-place.result (group_low _ _ _ c.requires.group c.requires.high) c.index-claims-place.is c.args.self.now c.requires.so_far c.change_of.result c.change_of.ensures c.in-Some.is_down c.in-Some.is
    c.args.group c.requires.group c.requires.low c.requires.high _ c.next_place-at.result c.is_repeated.result c.next_place-at.ensures.down c.next_place-at.ensures.other c.in_ok-push.ensures.items c.is_repeated.ensures (if_new c.is_repeated.result _ _ c.if-not-is_repeated.true)

pub returns-else-not-is_repeated-clause-numbered : goal.returns-else-not-is_repeated-clause-numbered
returns-else-not-is_repeated-clause-numbered c = add_more c.args.claims.now c.requires.ordered c.args.place c.index-claims-place.result (group_low _ _ _ c.requires.group c.requires.high) c.index-claims-place.is c.args.self.now c.requires.so_far c.change_of.result c.change_of.ensures c.in-Some.is_down c.in-Some.is
    c.args.group c.requires.group c.requires.low c.requires.high _ c.next_place-at.result c.is_repeated.result c.next_place-at.ensures.down c.next_place-at.ensures.other c.in_ok-push.ensures.items c.is_repeated.ensures (if_repeated c.is_repeated.result _ _ c.if-not-is_repeated.false)

pub returns-in_default-clause-numbered : goal.returns-in_default-clause-numbered
returns-in_default-clause-numbered c = add_none c.args.claims.now c.args.place c.index-claims-place.result (group_low _ _ _ c.requires.group c.requires.high) c.index-claims-place.is c.args.self.now c.requires.so_far c.change_of.result c.change_of.ensures c.in_default.not-Some
