use Rattle.sync_path.proofs.OrderLaws.{parent_is, parent_none}
use Rattle.sync_path.proofs.laws.parent_lacks_the_last_name.Goals as goal

pub returns-clause-some : goal.returns-clause-some
returns-clause-some c = parent_is

pub returns-clause-none : goal.returns-clause-none
returns-clause-none c = parent_none
