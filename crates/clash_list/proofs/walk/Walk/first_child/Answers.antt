use Rattle.std.proofs.Common.{None, Some, ap, sym, ◌∙◌}
use Rattle.clash_list.specs.Walks.{groups_left, below_from}
use Rattle.refluent.specs.Joints.{path_at}
use Rattle.clash_list.proofs.Walking.{below_found, none_below, empty_list}
use Rattle.clash_list.proofs.walk.Walk.first_child.Goals as goal

pub returns-in-None-clause-next : goal.returns-in-None-clause-next
returns-in-None-clause-next c none =
    ap (λ o. groups_left c.args.self.now.joint.now c.args.self.now.node o c.args.self.now.lefts.items) none
    ∙ below_found c.args.self.now.joint.now c.args.self.now.node _ c.node-node.result.now 0 None c.node-node.ensures (c.in-None.ensures c.node-node.result.now c.node-node.ensures)

pub returns-then-is_empty-clause-next : goal.returns-then-is_empty-clause-next
returns-then-is_empty-clause-next c none =
    ap (λ o. groups_left c.args.self.now.joint.now c.args.self.now.node o c.args.self.now.lefts.items) none
    ∙ ap (λ l. below_from c.args.self.now.joint.now c.args.self.now.node l (path_at c.args.self.now.joint.now.nodes c.args.self.now.node) 0) (sym c.drawn_logs-self.ensures ∙ empty_list _ c.is_empty.result c.is_empty.ensures c.if-is_empty.true)
    ∙ none_below c.args.self.now.joint.now c.args.self.now.node (path_at c.args.self.now.joint.now.nodes c.args.self.now.node) 0

pub returns-else-is_empty-clause-next : goal.returns-else-is_empty-clause-next
returns-else-is_empty-clause-next c none =
    ap (λ o. groups_left c.args.self.now.joint.now c.args.self.now.node o c.args.self.now.lefts.items) none
    ∙ ap (λ l. below_from c.args.self.now.joint.now c.args.self.now.node l (path_at c.args.self.now.joint.now.nodes c.args.self.now.node) 0) (sym c.drawn_logs-self.ensures)
    ∙ below_found c.args.self.now.joint.now c.args.self.now.node _ c.node-node.result.now 0 (Some c.in-Some.first) c.node-node.ensures (c.in-Some.ensures c.node-node.result.now c.node-node.ensures)
