use Rattle.sync_command.specs.Maps.{at}
use Rattle.rounds.proofs.Undoing.{stopped_law}
use Rattle.rounds.proofs.laws.stopped_tree_is_ready_for_the_inverse.Goals as goal

pub returns : goal.returns
returns c = λ m n tree. stopped_law (at m) (at n) tree.tree
