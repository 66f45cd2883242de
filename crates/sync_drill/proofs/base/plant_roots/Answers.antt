use Rattle.std.proofs.Common.{arith}
use Rattle.sync_drill.proofs.Planting.{root_planted, roots_planted}
use Rattle.sync_drill.proofs.base.plant_roots.Goals as goal

pub roots-preserved : goal.roots-preserved
roots-preserved c = record {
  within = omega arith;
  tree = root_planted _ _ _ c.roots.root c.args.count (omega arith) c.in_ok-plant_root.ensures c.roots.invariant.tree;
}

pub returns : goal.returns
returns c = roots_planted _ _ c.roots.root c.args.count (omega arith) c.roots.invariant.tree
