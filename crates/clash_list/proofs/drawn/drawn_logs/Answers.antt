use Rattle.std.proofs.Common.{◌≤◌, ℕ, length, arith, ap, subst, sym, ◌∙◌}
use Rattle.std.proofs.lemmas.Option.{slice_get-get_or}
use Rattle.arrayvec.specs.ArrayVec.{ArrayVec}
use Rattle.clash_list.specs.DrawnAt.{ArePicks}
use Rattle.clash_list.proofs.Drawing.{are_picks, few_picks, earlier_picks, all_logs, one_log, no_log}
use Rattle.clash_list.proofs.drawn.drawn_logs.Goals as goal
use Rattle.clash_list.proofs.drawn.drawn_logs.Goals.{then-belongs, else-belongs}

pub command_of-command-requires : goal.command_of-command-requires
command_of-command-requires c = subst (ArePicks c.args.joint.now.sets) (sym (c.commands-picks.ensures c.node-node.result.now c.node-node.ensures)) (are_picks c.args.joint.now.sets c.node-node.result.now) _ _
    (slice_get-get_or c.commands-picks.result.now c.picks.at _ c.picks-test.true)

pub belongs-requires : goal.belongs-requires
belongs-requires c = earlier_picks c.args.joint.now.sets c.commands-picks.result.now c.picks.at
    (subst (ArePicks c.args.joint.now.sets) (sym (c.commands-picks.ensures c.node-node.result.now c.node-node.ensures)) (are_picks c.args.joint.now.sets c.node-node.result.now))

pub push-requires : goal.push-requires
push-requires c =
    let few : c.logs-logs.result ≤ 64 = c.logs-logs.ensures.few in
    let many = ap length (c.commands-picks.ensures c.node-node.result.now c.node-node.ensures) in
    let sets = few_picks c.args.joint.now.sets c.node-node.result.now in
    (omega arith, omega (arith, c.picks.invariant.few, c.picks-test.true, few, c.logs-logs.ensures.logs, many, sets))

pub picks-preserved : goal.picks-preserved
picks-preserved c = elim c.if-belongs.branch [
  | then-belongs w ↦ record {
    few = omega (arith, ap (λ (v : ArrayVec ℕ). length v.items) w.logs-is, w.push.ensures.len, c.picks.invariant.few);
    logs = one_log c.args.joint.now.sets c.commands-picks.result.now c.picks.at _ c.command_of-command.result.now (slice_get-get_or c.commands-picks.result.now c.picks.at _ c.picks-test.true) c.command_of-command.ensures
        c.args.kept c.picks.logs.items c.picks.invariant.logs c.belongs.result _ c.belongs.ensures w.if-belongs.true (ap (λ (v : ArrayVec ℕ). v.items) w.logs-is ∙ w.push.ensures.items);
  }
  | else-belongs w ↦ record {
    few = omega (arith, ap (λ (v : ArrayVec ℕ). length v.items) w.logs-is, c.picks.invariant.few);
    logs = ap (λ (v : ArrayVec ℕ). v.items) w.logs-is ∙ no_log c.args.joint.now.sets c.commands-picks.result.now c.picks.at _ c.command_of-command.result.now (slice_get-get_or c.commands-picks.result.now c.picks.at _ c.picks-test.true) c.command_of-command.ensures
        c.args.kept c.picks.logs.items c.picks.invariant.logs c.belongs.result c.belongs.ensures w.if-belongs.false;
  }
]

pub returns : goal.returns
returns c = all_logs c.args.joint.now.nodes c.args.joint.now.sets c.args.place c.picks.at c.node-node.result.now c.commands-picks.result.now c.args.kept c.picks.logs.items c.node-node.ensures
    (c.commands-picks.ensures c.node-node.result.now c.node-node.ensures) c.picks-test.false c.picks.invariant.logs
