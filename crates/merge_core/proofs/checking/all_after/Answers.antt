use Rattle.std.proofs.Common.{arith, ◌∙◌}
use Rattle.merge_core.proofs.CheckLoops.{after_more}
use Rattle.merge_core.proofs.checking.all_after.Goals as goal

pub nodes-preserved : goal.nodes-preserved
nodes-preserved c = after_more _ _ _ _ _ _ c.nodes.invariant c.after_at.ensures c.in_ok-push.ensures.items

pub returns : goal.returns
returns c = record { many = c.nodes.invariant.many ∙ (let n = c.nodes-count.ensures in omega (arith, n)); each = c.nodes.invariant.each }
