use Rattle.std.proofs.Common.{◌+◌, length, arith, sym, ◌∙◌, ap, subst}
use Rattle.std.proofs.Math.ListN.{length-set}
use Rattle.refluent.proofs.Numbered.{AreDowns, count_then, count_else, downs_few, log_low}
use Rattle.refluent.proofs.numbering.count_downs.Goals as goal
use Rattle.refluent.proofs.numbering.count_downs.Goals.{then-has_down, else-has_down}

pub count_one-requires-clause-log : goal.count_one-requires-clause-log
count_one-requires-clause-log c = log_low _ _ _ c.requires _ _ c.claims-test.true c.claim-item.is (c.claims.invariant.many)

pub count_one-requires-clause-space : goal.count_one-requires-clause-space
count_one-requires-clause-space c = let a = downs_few _ _ _ _ (log_low _ _ _ c.requires _ _ c.claims-test.true c.claim-item.is (c.claims.invariant.many)) c.claims.invariant.each in omega (arith, a, c.claims-test.true)

pub claims-preserved : goal.claims-preserved
claims-preserved c = elim c.if-has_down.branch [
  | then-has_down w ↦ record {
    many = ap length (ap (λ v. v.items) w.downs-is ∙ w.count_one.ensures) ∙ length-set _ _ _ ∙ c.claims.invariant.many;
    each = count_then _ _ _ c.claims-test.true c.claim-item.is c.has_down.result c.has_down.ensures w.if-has_down.true _ _ (log_low _ _ _ c.requires _ _ c.claims-test.true c.claim-item.is c.claims.invariant.many) c.claims.invariant.each (ap (λ v. v.items) w.downs-is ∙ w.count_one.ensures);
  }
  | else-has_down w ↦ record {
    many = ap (λ v. length v.items) w.downs-is ∙ c.claims.invariant.many;
    each = subst (λ v. AreDowns c.args.claims.now (c.claims.claim-index + 1) v.items) (sym w.downs-is) (count_else _ _ _ c.claims-test.true c.claim-item.is c.has_down.result c.has_down.ensures w.if-has_down.false _ c.claims.invariant.each);
  }
]
