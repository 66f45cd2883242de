use Rattle.transition.proofs.WithinLogs.{transition_within}
use Rattle.transition.proofs.laws.transition_is_within_its_logs.Goals as goal

pub returns : goal.returns
returns c = transition_within
