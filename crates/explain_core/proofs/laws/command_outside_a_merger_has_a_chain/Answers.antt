use Rattle.explain_core.proofs.Barred.{chain_law}
use Rattle.explain_core.proofs.laws.command_outside_a_merger_has_a_chain.Goals as goal

pub returns : goal.returns
returns c = chain_law c.conflicts_tell_what_can_be_taken.ensures
