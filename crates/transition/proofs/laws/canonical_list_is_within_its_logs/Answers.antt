use Rattle.transition.proofs.WithinLogs.{canonical_within}
use Rattle.transition.proofs.laws.canonical_list_is_within_its_logs.Goals as goal

pub returns : goal.returns
returns c = canonical_within
