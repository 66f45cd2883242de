use Rattle.transition.proofs.Nets.{made_of_nets}
use Rattle.transition.proofs.laws.transition_is_made_of_net_commands.Goals as goal

pub returns : goal.returns
returns c = made_of_nets
