use Rattle.std.proofs.Common.{ap, length, subst, sym}
use Rattle.refluent.specs.Joints.{EachStandsFor}
use Rattle.sync_drill.proofs.Summing.{summed}
use Rattle.sync_drill.proofs.Walking.{has_common}
use Rattle.sync_drill.proofs.summary.summarize.Goals as goal

pub join_all-requires-clause-common : goal.join_all-requires-clause-common
join_all-requires-clause-common c =
    let made = c.in_ok-sums.ensures.logs in
    (made.0, made.1, has_common c.in_ok-base.base c.args.seed c.args.steps c.args.logs made.0 c.in_ok-base.ensures.tree made.2)

pub returns : goal.returns
returns c =
    let made = c.in_ok-sums.ensures.logs in
    summed c.in_ok-base.base c.in_ok-base.ensures.tree c.in_ok-base.ensures.base c.args.seed c.args.logs c.args.steps made.0 made.2
    c.in_ok-joint.joint (c.in_ok-joint.ensures made.0 made.1) c.in_ok-merger.merger c.in_ok-merger.ensures c.commands.ensures.order _
    (c.in_ok-commands.ensures made.0 (subst (λ sums. EachStandsFor sums made.0) (sym c.deref.ensures.value) made.1)) c.drawn.ensures c.in_ok-clashes.ensures (ap length c.commands.ensures.commands) c.in_ok-transitions.ensures c.in_ok-tree.ensures
