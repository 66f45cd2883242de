use Rattle.std.proofs.Common.{◌≡◌, ◌<◌, ◌≤◌, ◌*◌, ◌^◌, ℕ, ap, sym, subst, ◌∙◌, List, arith, length}
use Rattle.std.specs.Prelude.{vec_capacity}
use Rattle.scan_board.specs.declared.board.Card.{Card}
use Rattle.scan_board.specs.Boards.{card_at}
use Rattle.scan_board.proofs.Making.{cards_low, made, product_is}
use Rattle.scan_board.proofs.board.Board.new.Goals as goal

pub count_dirs-requires : goal.count_dirs-requires
count_dirs-requires g c =
    let long : c.len.result ≡ length c.in_ok-naming.naming.names.back.items = omega (arith, c.len.ensures, c.in_ok-naming.naming.names.back.ok.0) in
    subst (λ (cards : List Card). (i : ℕ) → i < length cards → (card_at cards i).node < c.len.result) (sym c.deref.ensures.value)
    (λ i l. rw long (cards_low c.args.joint.now c.in_ok-naming.naming c.in_ok-naming.ensures c.in_ok-cards.cards.items c.in_ok-cards.ensures i l))

pub spots_of-requires-clause-dirs : goal.spots_of-requires-clause-dirs
spots_of-requires-clause-dirs g c = ap length c.deref-2.ensures.value ∙ c.in_ok-dirs.ensures.len ∙ (let long : c.len.result ≡ length c.in_ok-naming.naming.names.back.items = omega (arith, c.len.ensures, c.in_ok-naming.naming.names.back.ok.0) in long)

pub invariant_of-result : goal.invariant_of-result
invariant_of-result g c =
    let long : c.len.result ≡ length c.in_ok-naming.naming.names.back.items = omega (arith, c.len.ensures, c.in_ok-naming.naming.names.back.ok.0) in
    let w = made c.args.joint.now c.in_ok-naming.naming c.in_ok-naming.ensures c.in_ok-families.families c.in_ok-families.ensures c.in_ok-cards.cards.items c.in_ok-cards.ensures
    c.deref.result.now c.len.result c.in_ok-dirs.dirs.items c.deref.ensures.value long c.in_ok-dirs.ensures c.deref-2.result.now c.in_ok-spots.spots.items c.deref-2.ensures.value c.in_ok-spots.ensures c.in_ok-pile.pile.items c.in_ok-pile.ensures.items in
    let times : c.in_ok-space.space ≡ c.len-2.result * 4 = product_is c.checked_mul.result c.in_ok-space.space (c.len-2.result * 4) (c.len-2.result * 4 < 2 ^ 64) c.in_ok-space.ensures.ok_part c.checked_mul.ensures in
    let space : 4 * length c.in_ok-cards.cards.items ≤ vec_capacity c.in_ok-pile.pile = omega (arith, times, c.len-2.ensures, c.in_ok-pile.ensures.exact, c.in_ok-cards.cards.ok.0) in
    (w.board, space)

pub returns : goal.returns
returns g c =
    let long : c.len.result ≡ length c.in_ok-naming.naming.names.back.items = omega (arith, c.len.ensures, c.in_ok-naming.naming.names.back.ok.0) in
    made c.args.joint.now c.in_ok-naming.naming c.in_ok-naming.ensures c.in_ok-families.families c.in_ok-families.ensures c.in_ok-cards.cards.items c.in_ok-cards.ensures
    c.deref.result.now c.len.result c.in_ok-dirs.dirs.items c.deref.ensures.value long c.in_ok-dirs.ensures c.deref-2.result.now c.in_ok-spots.spots.items c.deref-2.ensures.value c.in_ok-spots.ensures c.in_ok-pile.pile.items c.in_ok-pile.ensures.items
