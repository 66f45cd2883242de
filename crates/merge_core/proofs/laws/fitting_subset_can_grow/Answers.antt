use Rattle.refluent.proofs.CallerLemmas.{grow_law}
use Rattle.merge_core.proofs.laws.fitting_subset_can_grow.Goals as goal

pub returns : goal.returns
returns c = λ m. grow_law _
