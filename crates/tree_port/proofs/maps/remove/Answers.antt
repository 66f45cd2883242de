use Rattle.tree_port.proofs.Putting.{node_removed}
use Rattle.tree_port.proofs.maps.remove.Goals as goal

pub returns : goal.returns
returns c = record { puts = node_removed _ _ _ _ _ c.kind.ensures.kind c.in_default.not-Empty c.kind.ensures.tree c.set.ensures.puts; fault = c.set.ensures.fault }
