use Rattle.std.proofs.Common.{◌≡◌, ◌<◌, ℕ, sym, subst, ◌∙◌, List, Option, arith, length}
use Rattle.scan_board.specs.Linked.{IsOptionWithin, option_at, IsLinked}
use Rattle.scan_board.proofs.Keys.{parents_within}
use Rattle.scan_board.proofs.building.families_of.Goals as goal

pub chain-requires : goal.chain-requires
chain-requires c =
    let long : c.len.result ≡ length c.args.naming.now.names.back.items = omega (arith, c.len.ensures, c.args.naming.now.names.back.ok.0) in
    subst (λ (l : List (Option ℕ)). (i : ℕ) → i < length l → IsOptionWithin (option_at l i) c.len.result) (sym c.deref.ensures.value)
    (λ i l. subst (λ (n : ℕ). IsOptionWithin (option_at c.in_ok-parents.parents.items i) n) (sym long) (parents_within c.args.joint.now c.args.naming.now c.requires c.in_ok-parents.parents.items c.in_ok-parents.ensures i l))

pub returns : goal.returns
returns c =
    let long : c.len.result ≡ length c.args.naming.now.names.back.items = omega (arith, c.len.ensures, c.args.naming.now.names.back.ok.0) in
    record {
      parents = c.in_ok-parents.ensures;
      kids = subst (λ (l : List (Option ℕ)). IsLinked l (length c.args.naming.now.names.back.items) c.in_ok-kids.kids.heads.items c.in_ok-kids.kids.nexts.items 0) c.deref.ensures.value
          (subst (λ (n : ℕ). IsLinked c.deref.result.now n c.in_ok-kids.kids.heads.items c.in_ok-kids.kids.nexts.items 0) long c.in_ok-kids.ensures);
    }
