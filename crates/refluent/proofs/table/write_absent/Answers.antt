use Rattle.std.proofs.Common.{sym, ◌∙◌}
use Rattle.refluent.proofs.Writing.{left_more_then, left_more_else}
use Rattle.refluent.proofs.table.write_absent.Goals as goal
use Rattle.refluent.proofs.table.write_absent.Goals.{then-leaves, else-leaves}

pub claims-preserved : goal.claims-preserved
claims-preserved c = elim c.if-leaves.branch [
  | then-leaves w ↦ left_more_then _ _ _ _ _ _ c.claims-test.true c.claim-item.is c.claims.invariant (sym c.leaves.ensures ∙ w.if-leaves.true) w.demands-is
  | else-leaves w ↦ left_more_else _ _ _ _ _ _ c.claims-test.true c.claim-item.is c.claims.invariant (sym c.leaves.ensures ∙ w.if-leaves.false) w.demands-is
]
