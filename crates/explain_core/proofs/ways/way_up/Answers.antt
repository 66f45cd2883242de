use Rattle.std.proofs.Common.{ap, sym, subst, ◌∙◌}
use Rattle.sync_command.specs.Values.{is_dir}
use Rattle.explain_core.specs.FirstChains.{first_tree, way_up}
use Rattle.explain_core.specs.Reasons.{AreAt}
use Rattle.explain_core.proofs.Climbing.{UpTo, up_dir, up_ends, up_low, up_made, up_on, up_smaller, up_taken, up_within}
use Rattle.explain_core.proofs.Placing.{path_below}
use Rattle.explain_core.proofs.ways.way_up.Goals as goal

pub parent-requires : goal.parent-requires
parent-requires c =
    let n = path_below c.args.joint.now.nodes c.args.place c.requires.place in
    up_low c.args.joint.now c.requires.joint c.args.set.now n.0 c.up.via.items c.up.at (c.up.invariant n.0 n.1)

pub node-requires : goal.node-requires
node-requires c =
    let n = path_below c.args.joint.now.nodes c.args.place c.requires.place in
    up_within c.args.joint.now c.requires.joint c.args.set.now n.0 c.up.via.items c.up.at (c.up.invariant n.0 n.1) c.in-Some.up c.in-Some.ensures

pub returns-then-is_dir : goal.returns-then-is_dir
returns-then-is_dir c n top =
    up_made c.args.joint.now c.requires.joint c.args.set.now n c.up.via.items c.up.at (c.up.invariant n top) c.in-Some.up c.in-Some.ensures c.node.result.now c.node.ensures
    c.in-Some-at.command.now (sym c.in-Some-at.ensures) (ap is_dir (sym c.new_value.ensures) ∙ sym c.if-is_dir.ensures)

pub returns-in-Some-at : goal.returns-in-Some-at
returns-in-Some-at c n top =
    let taken = up_taken c.args.joint.now c.requires.joint c.args.set.now n c.up.via.items c.up.at (c.up.invariant n top) c.in-Some.up c.in-Some.ensures c.node.result.now c.node.ensures
    c.in-Some-at.command.now (sym c.in-Some-at.ensures) (ap is_dir (sym c.new_value.ensures) ∙ sym c.if-is_dir.ensures) in
    (subst (λ l. AreAt c.args.joint.now.nodes l (way_up c.args.set.now n)) (sym c.in_ok-push-in-Some-at.ensures.items) taken.0, taken.1)

pub first-requires : goal.first-requires
first-requires c =
    let n = path_below c.args.joint.now.nodes c.args.place c.requires.place in
    up_within c.args.joint.now c.requires.joint c.args.set.now n.0 c.up.via.items c.up.at (c.up.invariant n.0 n.1) c.in-Some.up c.in-Some.ensures

pub returns-then-is_dir-2 : goal.returns-then-is_dir-2
returns-then-is_dir-2 c n top =
    up_dir c.args.joint.now c.requires.joint c.args.set.now n c.up.via.items c.up.at (c.up.invariant n top) c.in-Some.up c.in-Some.ensures c.node.result.now c.node.ensures
    (sym c.in-None.ensures) c.first.result.now c.first.ensures (sym c.if-is_dir-2.ensures)

pub up-smaller : goal.up-smaller
up-smaller c =
    let n = path_below c.args.joint.now.nodes c.args.place c.requires.place in
    up_smaller c.args.joint.now c.requires.joint c.args.set.now n.0 c.up.via.items c.up.at (c.up.invariant n.0 n.1) c.in-Some.up c.in-Some.ensures

pub up-preserved : goal.up-preserved
up-preserved c n top =
    subst (λ l. UpTo (first_tree c.args.joint.now) c.args.joint.now.nodes c.args.set.now n l c.in-Some.up) (sym c.in_ok-push-in-None.ensures.items)
    (up_on c.args.joint.now c.requires.joint c.args.set.now n c.up.via.items c.up.at (c.up.invariant n top) c.in-Some.up c.in-Some.ensures c.node.result.now c.node.ensures
    (sym c.in-None.ensures) c.first.result.now c.first.ensures (sym c.if-is_dir-2.ensures))

pub returns : goal.returns
returns c n top = up_ends c.args.joint.now c.requires.joint c.args.set.now n c.up.via.items c.up.at (c.up.invariant n top) c.in_default.ensures
