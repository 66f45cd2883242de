use Rattle.std.proofs.Common.{rules, ◌≡◌, Err}
use Rattle.sync_round.proofs.Walks.{many_boxes, ready_boxes, round_on, round_of_known}
use Rattle.sync_round.proofs.rounding.round.Goals as goal

pub returns-in_err-look_at_all-clause-of_known : goal.returns-in_err-look_at_all-clause-of_known
returns-in_err-look_at_all-clause-of_known g c =
    let e : c.from_residual.result ≡ Err c.in_err-look_at_all.field-0.0 = search rules in
    rw e (round_of_known c.args.joint.now c.args.set.now (Err c.in_err-look_at_all.field-0.0) _ _ c.in_err-look_at_all.ensures)

pub lead_all_on-requires-clause-many : goal.lead_all_on-requires-clause-many
lead_all_on-requires-clause-many g c =
    many_boxes (λ tree. (goal.Tree-dyn g (tree.vtable, tree.value)).live tree.value) c.args.joint.now c.args.set.now c.args.trees.now.items c.look_at_all.new.trees.items c.in_ok-look_at_all.ensures c.logs-logs.ensures.joint

pub lead_all_on-requires-clause-ready : goal.lead_all_on-requires-clause-ready
lead_all_on-requires-clause-ready g c =
    ready_boxes (λ tree. (goal.Tree-dyn g (tree.vtable, tree.value)).live tree.value) c.args.joint.now c.args.set.now c.args.trees.now.items c.look_at_all.new.trees.items c.in_ok-look_at_all.ensures

pub returns-clause-leaves : goal.returns-clause-leaves
returns-clause-leaves g c =
    round_on (λ tree. (goal.Tree-dyn g (tree.vtable, tree.value)).live tree.value) c.args.joint.now c.args.set.now c.args.trees.now.items c.look_at_all.new.trees.items c.in_ok-look_at_all.ensures c.lead_all_on.result c.lead_all_on.new.trees.items c.lead_all_on.ensures

pub returns-clause-of_known : goal.returns-clause-of_known
returns-clause-of_known g c =
    round_of_known c.args.joint.now c.args.set.now c.lead_all_on.result _ _
    (round_on (λ tree. (goal.Tree-dyn g (tree.vtable, tree.value)).live tree.value) c.args.joint.now c.args.set.now c.args.trees.now.items c.look_at_all.new.trees.items c.in_ok-look_at_all.ensures c.lead_all_on.result c.lead_all_on.new.trees.items c.lead_all_on.ensures)
