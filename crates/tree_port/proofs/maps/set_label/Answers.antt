use Rattle.tree_port.proofs.Putting.{label_set}
use Rattle.tree_port.proofs.maps.set_label.Goals as goal

pub returns-in-Ok : goal.returns-in-Ok
returns-in-Ok c = record { puts = label_set _ _ _ _ _ _ _ c.kind.ensures.kind c.in-Dir.is c.in-Ok.ensures c.kind.ensures.tree c.set.ensures.puts; fault = c.set.ensures.fault }
