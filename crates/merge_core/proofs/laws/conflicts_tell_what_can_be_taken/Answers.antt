use Rattle.merge_core.proofs.MergerLaws.{conflict_law}
use Rattle.merge_core.proofs.laws.conflicts_tell_what_can_be_taken.Goals as goal

pub returns : goal.returns
returns c = conflict_law
