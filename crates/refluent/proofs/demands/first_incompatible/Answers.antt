use Rattle.std.proofs.Common.{sym, ◌∙◌}
use Rattle.refluent.proofs.Pairs.{none_more}
use Rattle.refluent.proofs.demands.first_incompatible.Goals as goal

pub others-preserved : goal.others-preserved
others-preserved c = none_more _ _ _ _ _ c.others-test.true c.index-demands-place.is (sym c.are_incompatible.ensures ∙ c.if-are_incompatible.false) c.others.invariant
