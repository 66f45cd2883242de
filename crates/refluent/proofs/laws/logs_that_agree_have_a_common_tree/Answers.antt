use Rattle.refluent.proofs.CommonTrees.{agree_law}
use Rattle.refluent.proofs.laws.logs_that_agree_have_a_common_tree.Goals as goal

pub returns : goal.returns
returns c = agree_law
