use Rattle.std.proofs.Common.{◌≡◌, ◌+◌, ◌-◌, ℕ, refl, subst, arith}
use Rattle.std.specs.Prelude.{slice_set}
use Rattle.scan_board.specs.Linked.{option_at, IsLinked}
use Rattle.scan_board.proofs.Linking.{link_next}
use Rattle.scan_board.proofs.chains.chain.Goals as goal

pub loop-i-preserved : goal.loop-i-preserved
loop-i-preserved c =
    let e : c.loop-i.i ≡ c.loop-i.i - 1 + 1 = omega arith in (
      omega arith,
      link_next c.args.keys.now c.args.buckets c.loop-i.heads.items c.loop-i.nexts.items c.put_first-next.new.heads.items (slice_set c.loop-i.nexts.items (c.loop-i.i - 1) c.put_first-next.result) (c.loop-i.i - 1)
          (option_at c.args.keys.now (c.loop-i.i - 1)) c.put_first-next.result (omega arith)
          (subst (λ (x : ℕ). IsLinked c.args.keys.now c.args.buckets c.loop-i.heads.items c.loop-i.nexts.items x) e c.loop-i.invariant.1) refl (c.requires (c.loop-i.i - 1) (omega arith))
          c.put_first-next.ensures.none c.put_first-next.ensures.some refl,
    )

pub returns : goal.returns
returns c =
    let e : c.loop-i.i ≡ 0 = omega arith in
    subst (λ (x : ℕ). IsLinked c.args.keys.now c.args.buckets c.loop-i.heads.items c.loop-i.nexts.items x) e c.loop-i.invariant.1
