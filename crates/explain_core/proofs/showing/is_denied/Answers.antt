use Rattle.std.proofs.Common.{arith, refl, ◌<◌, ◌+◌, length}
use Rattle.std.specs.Prelude.{slice_index}
use Rattle.explain_core.specs.Demands.{is_met}
use Rattle.explain_core.specs.FirstChains.{first_tree}
use Rattle.explain_core.proofs.Testing.{denied_goes, denied_last, denied_stops}
use Rattle.explain_core.proofs.showing.is_denied.Goals as goal

pub returns-then-at-via : goal.returns-then-at-via
returns-then-at-via c xs e =
    denied_last c.args.joint.now.nodes (is_met c.args.demand) (first_tree c.args.joint.now) c.args.set.now c.args.via.now xs e c.via.at (slice_index c.args.via.now c.via.at) refl _ (c.via.invariant xs e)
    c.via-test.true c.if-at-via.true c.denies.result c.denies.ensures

pub returns-then-not-passes_on : goal.returns-then-not-passes_on
returns-then-not-passes_on c xs e =
    let more : c.via.at + 1 < length c.args.via.now = omega (arith, c.if-at-via.false) in
    denied_stops c.args.joint.now.nodes (is_met c.args.demand) (first_tree c.args.joint.now) c.args.set.now c.args.via.now xs e c.via.at (slice_index c.args.via.now c.via.at) refl _ (c.via.invariant xs e)
    c.via-test.true more c.passes_on.result c.passes_on.ensures c.if-not-passes_on.true

pub via-preserved : goal.via-preserved
via-preserved c xs e =
    let more : c.via.at + 1 < length c.args.via.now = omega (arith, c.if-at-via.false) in
    denied_goes c.args.joint.now.nodes (is_met c.args.demand) (first_tree c.args.joint.now) c.args.set.now c.args.via.now xs e c.via.at (slice_index c.args.via.now c.via.at) refl _ (c.via.invariant xs e)
    c.via-test.true more c.passes_on.result c.passes_on.ensures c.if-not-passes_on.false
