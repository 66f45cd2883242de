use Rattle.refluent.proofs.CallerLemmas.{merger_whole}
use Rattle.merge_core.proofs.laws.merger_is_no_proper_subset.Goals as goal

pub returns : goal.returns
returns c = λ m. merger_whole _
