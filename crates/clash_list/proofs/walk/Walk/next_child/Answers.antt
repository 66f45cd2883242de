use Rattle.std.proofs.Common.{Some, ◌+◌, ap, subst, ◌∙◌, arith}
use Rattle.refluent.specs.Families.{IsFirstChild}
use Rattle.clash_list.specs.Walks.{groups_left, step_of}
use Rattle.clash_list.proofs.Walking.{below_found, later_child, path_low}
use Rattle.clash_list.proofs.walk.Walk.next_child.Goals as goal

pub next_sibling-requires : goal.next_sibling-requires
next_sibling-requires c = let of = c.requires.state.below c.in-Some.child c.in-Some.is in path_low c.args.self.now.joint.now.nodes c.in-Some.child of.path of.at

pub returns-in-None-clause-later : goal.returns-in-None-clause-later
returns-in-None-clause-later c = c.first_child.ensures.later c.in-None.is

pub returns-in-Some-clause-next : goal.returns-in-Some-clause-next
returns-in-Some-clause-next c =
    let of = c.requires.state.below c.in-Some.child c.in-Some.is in
    ap (λ o. groups_left c.args.self.now.joint.now c.args.self.now.node o c.args.self.now.lefts.items) c.in-Some.is
    ∙ below_found c.args.self.now.joint.now c.args.self.now.node _ of.up (c.in-Some.child + 1) c.next_sibling.result of.above
    (subst (λ o. IsFirstChild c.args.self.now.joint.now.nodes o (c.in-Some.child + 1) c.next_sibling.result) of.under (c.next_sibling.ensures of.path of.at))

pub returns-in-Some-clause-later : goal.returns-in-Some-clause-later
returns-in-Some-clause-later c k e =
    let of = c.requires.state.below c.in-Some.child c.in-Some.is in
    let here = ap step_of c.in-Some.is in
    later_child c.args.self.now.joint.now c.args.self.now.node c.args.self.now.child of.up (c.in-Some.child + 1) k of.above
    (subst (λ o. IsFirstChild c.args.self.now.joint.now.nodes (Some of.up) (c.in-Some.child + 1) o) e (subst (λ o. IsFirstChild c.args.self.now.joint.now.nodes o (c.in-Some.child + 1) c.next_sibling.result) of.under (c.next_sibling.ensures of.path of.at)))
    (omega (arith, here))
