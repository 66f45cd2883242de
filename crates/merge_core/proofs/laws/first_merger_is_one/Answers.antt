use Rattle.merge_core.proofs.MergerLaws.{one_first_law}
use Rattle.merge_core.proofs.laws.first_merger_is_one.Goals as goal

pub returns : goal.returns
returns c = one_first_law
