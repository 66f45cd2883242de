use Rattle.sync_drill.proofs.Planting.{base_is}
use Rattle.sync_drill.proofs.base.base_tree.Goals as goal

pub returns-clause-base : goal.returns-clause-base
returns-clause-base c = base_is _ _ c.new-tree.ensures c.in_ok-plant_roots.ensures
