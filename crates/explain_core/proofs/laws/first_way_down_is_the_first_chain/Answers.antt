use Rattle.explain_core.proofs.FirstChains.{nearest_law}
use Rattle.explain_core.proofs.laws.first_way_down_is_the_first_chain.Goals as goal

pub returns : goal.returns
returns c = nearest_law
