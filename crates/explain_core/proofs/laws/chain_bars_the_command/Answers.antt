use Rattle.sync_command.specs.Maps.{at}
use Rattle.refluent.specs.CommonTrees.{least_common_tree}
use Rattle.explain_core.proofs.ChainLaws.{bars_law}
use Rattle.explain_core.proofs.laws.chain_bars_the_command.Goals as goal

pub returns : goal.returns
returns c = λ logs m. bars_law (least_common_tree logs) (at m)
