use Rattle.tree_port.proofs.Putting.{dir_made}
use Rattle.tree_port.proofs.maps.make_dir.Goals as goal

pub returns-in-Ok : goal.returns-in-Ok
returns-in-Ok c = record { puts = dir_made _ _ _ _ _ _ _ c.kind.ensures.kind c.in-Empty.is c.in-Ok.ensures c.kind.ensures.tree c.set.ensures.puts; fault = c.set.ensures.fault }
