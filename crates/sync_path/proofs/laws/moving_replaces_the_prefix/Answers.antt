use Rattle.sync_path.proofs.OrderLaws.{moved_prefix}
use Rattle.sync_path.proofs.laws.moving_replaces_the_prefix.Goals as goal

pub returns : goal.returns
returns c = moved_prefix
