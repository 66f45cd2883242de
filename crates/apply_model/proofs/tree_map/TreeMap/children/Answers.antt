use Rattle.std.specs.Prelude.{option_copied}
use Rattle.apply_model.proofs.Children.{all_below, all_children}
use Rattle.apply_model.proofs.tree_map.TreeMap.children.Goals as goal

pub returns-clause-below : goal.returns-clause-below
returns-clause-below c = all_below (option_copied c.args.above) c.self.inside.nodes.entries c.args.self.now c.self.view_is c.len-count.ensures.unique c.nodes.found.items c.nodes.path-iterator c.into_iter-path-iterator.result c.nodes.invariant
    c.in-None.ensures.steps.0 c.into_iter-path-iterator.ensures.into_iter_gives.0 c.paths_in_order.result.items c.paths_in_order.ensures.moved c.paths_in_order.ensures.sorted

pub returns-clause-children : goal.returns-clause-children
returns-clause-children c = all_children (option_copied c.args.above) c.self.inside.nodes.entries c.args.self.now c.self.view_is c.len-count.ensures.unique c.nodes.found.items c.nodes.path-iterator c.into_iter-path-iterator.result c.nodes.invariant
    c.in-None.ensures.steps.0 c.into_iter-path-iterator.ensures.into_iter_gives.0 c.paths_in_order.result.items c.paths_in_order.ensures.moved c.paths_in_order.ensures.sorted
