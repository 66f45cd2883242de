use Rattle.refluent.proofs.CommonTrees.{least_law}
use Rattle.refluent.proofs.laws.least_common_tree_is_common.Goals as goal

pub returns : goal.returns
returns c = least_law
