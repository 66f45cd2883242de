use Rattle.refluent.proofs.CommonTrees.{each_law}
use Rattle.refluent.proofs.laws.drawn_set_fits_each_common_tree.Goals as goal

pub returns : goal.returns
returns c = each_law
