use Rattle.record_core.proofs.Listing.{held_first, listing_on}
use Rattle.record_core.proofs.subtrees.list_subtree.Goals as goal

pub nodes-preserved : goal.nodes-preserved
nodes-preserved g c =
    listing_on _ c.args.path.now _ _ _ c.nodes.found.items c.pop.new.self.items c.nodes.stack.items c.push_backwards.new.stack.items c.push-in-Some.new.self.items c.in-Some.next c.in_ok-children.children.items
    (held_first _ c.args.path.now c.requires) c.nodes.invariant c.in-Some.ensures.items c.in_ok-children.ensures.cause c.in_ok-children.ensures.below c.in_ok-children.ensures.known c.in_ok-push_backwards.ensures c.in_ok-push-2.ensures.items
