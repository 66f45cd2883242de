use Rattle.std.proofs.Common.{arith}
use Rattle.sync_drill.proofs.Planting.{child_planted, children_planted}
use Rattle.sync_drill.proofs.base.plant_children.Goals as goal

pub children-preserved : goal.children-preserved
children-preserved c = record {
  within = omega arith;
  tree = child_planted _ _ _ c.args.root c.children.child c.args.count _ _ (omega arith) c.in_ok-path.ensures c.in_ok-value.ensures c.in_ok-plant.ensures c.children.invariant.tree;
}

pub returns : goal.returns
returns c = children_planted _ _ c.args.root c.children.child c.args.count (omega arith) c.children.invariant.tree
