use Rattle.transition.proofs.WithinLogs.{drawn_within}
use Rattle.transition.proofs.laws.drawn_set_is_within_its_logs.Goals as goal

pub returns : goal.returns
returns c = drawn_within
