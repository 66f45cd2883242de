use Rattle.merge_core.proofs.MergerLaws.{steer_law}
use Rattle.merge_core.proofs.laws.steered_merger_is_first.Goals as goal

pub returns : goal.returns
returns c = steer_law
