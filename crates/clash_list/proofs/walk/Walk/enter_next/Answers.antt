use Rattle.std.proofs.Common.{sym, subst, ap, refl, arith}
use Rattle.clash_list.specs.Walks.{IsLater}
use Rattle.clash_list.proofs.Walking.{at_child, at_node}
use Rattle.clash_list.proofs.walk.Walk.enter_next.Goals as goal

pub enter_child-requires-clause-later : goal.enter_child-requires-clause-later
enter_child-requires-clause-later c = subst (λ w. IsLater w.joint.now w.node w.child c.in-Some.child) (sym c.in-Some.ensures.kept) (c.in-Some.ensures.later c.in-Some.child refl)

pub overflow_add-self : goal.overflow_add-self
overflow_add-self c = let same = ap (λ w. w.node) c.in-None.ensures.kept in omega (arith, same, c.requires.node, c.nodes-nodes.ensures)

pub returns-in-Some-clause-fewer : goal.returns-in-Some-clause-fewer
returns-in-Some-clause-fewer c = at_child c.args.self.now c.next_child.new.self c.enter_child.new.self c.in-Some.ensures.kept c.enter_child.ensures.joint c.requires.node
    c.in-Some.child c.enter_child.ensures.node c.enter_child.ensures.child (c.in-Some.ensures.later c.in-Some.child refl)

pub returns-in-None-clause-fewer : goal.returns-in-None-clause-fewer
returns-in-None-clause-fewer c = at_node c.args.self.now c.next_child.new.self c.enter_node.new.self c.in-None.ensures.kept c.enter_node.ensures.joint c.requires.node
    c.enter_node.ensures.node c.enter_node.ensures.child c.requires.state
