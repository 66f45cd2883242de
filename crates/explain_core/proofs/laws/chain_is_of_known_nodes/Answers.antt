use Rattle.explain_core.proofs.ChainNodes.{node_law}
use Rattle.explain_core.proofs.laws.chain_is_of_known_nodes.Goals as goal

pub returns : goal.returns
returns c = node_law
