use Rattle.tree_port.proofs.Putting.{file_put}
use Rattle.tree_port.proofs.maps.put_file.Goals as goal

pub returns-in-Ok : goal.returns-in-Ok
returns-in-Ok c = record { puts = file_put _ _ _ _ _ _ _ c.kind.ensures.kind c.in_default.not-Dir c.in-Ok.ensures c.kind.ensures.tree c.set.ensures.puts; fault = c.set.ensures.fault }
