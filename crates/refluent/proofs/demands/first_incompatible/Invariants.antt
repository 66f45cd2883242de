use Rattle.refluent.specs.Demands.{NoneIncompatible}
use Rattle.refluent.proofs.demands.first_incompatible.Given as goal

abbrev pub invariant-others : goal.invariant-others
invariant-others l = NoneIncompatible l.demands l.demand l.from l.place
