use Rattle.refluent.proofs.CommonTrees.{touched_law, untouched_law}
use Rattle.refluent.proofs.laws.least_common_tree_values.Goals as goal

pub returns-clause-touched : goal.returns-clause-touched
returns-clause-touched c = touched_law

pub returns-clause-untouched : goal.returns-clause-untouched
returns-clause-untouched c = untouched_law
