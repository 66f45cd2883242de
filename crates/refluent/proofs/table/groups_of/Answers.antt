use Rattle.std.proofs.Common.{◌≡◌, ◌+◌, arith, length, sym, ap, ◌∙◌, subst, true, false}
use Rattle.sync_path.specs.Paths.{parent}
use Rattle.refluent.specs.Tables.{IsParentGroup}
use Rattle.refluent.proofs.Climbing.{with_node, with_claim, grown, Grows}
use Rattle.refluent.proofs.table.groups_of.Goals as goal
use Rattle.refluent.proofs.table.groups_of.Goals.{then-is_last+in_ok-push, else-is_last}

pub claims-preserved : goal.claims-preserved
claims-preserved c = elim c.if-is_last.branch [
  | then-is_last+in_ok-push w ↦ let h = with_node c.args.claims.now c.claims.groups.items c.claims.start c.claims.place c.requires.sorted c.claims.invariant.grows c.claims-test.true c.is_last.result c.is_last.ensures.next w.if-is_last.true w.find_parent-parent.result
      (λ x e. subst (λ l. IsParentGroup c.args.claims.now l (parent x.path) w.find_parent-parent.result) w.as_slice.ensures.value (w.find_parent-parent.ensures x e)) c.if-is_last.groups.items (ap (λ v. v.items) w.groups-is ∙ w.in_ok-push.ensures.items) in
      record { grows = subst (λ n. Grows c.args.claims.now c.if-is_last.groups.items n (c.claims.place + 1)) (sym w.start-is) h; whole = λ e. w.start-is ∙ e }
  | else-is_last w ↦ let h = with_claim c.args.claims.now c.claims.groups.items c.claims.start c.claims.place c.requires.sorted c.claims.invariant.grows c.claims-test.true c.is_last.result c.is_last.ensures.next w.if-is_last.false in
      record {
        grows = subst (λ n. Grows c.args.claims.now c.if-is_last.groups.items n (c.claims.place + 1)) (sym w.start-is) (subst (λ v. Grows c.args.claims.now v.items c.claims.start (c.claims.place + 1)) (sym w.groups-is) h);
        whole = λ e. let t : c.is_last.result ≡ true = c.is_last.ensures.end e in let f : c.is_last.result ≡ false = w.if-is_last.false in cc (t, f);
      }
]

pub returns : goal.returns
returns c = let e : c.claims.place ≡ length c.args.claims.now = omega (arith, c.claims.auto.place-end) in
    grown c.args.claims.now c.claims.groups.items c.claims.start (subst (λ n. Grows c.args.claims.now c.claims.groups.items c.claims.start n) e c.claims.invariant.grows) (c.claims.invariant.whole e)
