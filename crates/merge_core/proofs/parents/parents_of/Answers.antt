use Rattle.std.proofs.Common.{arith}
use Rattle.merge_core.proofs.ParentPlaces.{parents_more, parents_done}
use Rattle.merge_core.proofs.parents.parents_of.Goals as goal

pub nodes-preserved : goal.nodes-preserved
nodes-preserved c = parents_more _ _ _ _ _ c.nodes.invariant c.parent.ensures c.in_ok-push.ensures.items

pub returns : goal.returns
returns c = parents_done c.args.joint.now c.requires c.nodes.place _ c.nodes.invariant (let n = c.nodes-count.ensures in omega arith)
