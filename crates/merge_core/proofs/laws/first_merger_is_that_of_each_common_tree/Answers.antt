use Rattle.merge_core.proofs.MergerLaws.{each_first_law}
use Rattle.merge_core.proofs.laws.first_merger_is_that_of_each_common_tree.Goals as goal

pub returns : goal.returns
returns c = each_first_law
