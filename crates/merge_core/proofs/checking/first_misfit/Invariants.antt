use Rattle.std.proofs.Common.{◌≡◌, true}
use Rattle.refluent.specs.Families.{NonePasses}
use Rattle.merge_core.specs.Afterwards.{is_misfit}
use Rattle.merge_core.proofs.checking.first_misfit.Given as goal

abbrev pub invariant-nodes : goal.invariant-nodes
invariant-nodes l = NonePasses (λ i. is_misfit l.parents l.seen i ≡ true) 0 l.place
