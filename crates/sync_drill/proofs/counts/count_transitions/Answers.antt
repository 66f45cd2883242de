use Rattle.std.proofs.Common.{arith, refl}
use Rattle.sync_drill.proofs.Counting.{merger_drawn, merger_fits, none_counted, transition_counted, transitions_counted}
use Rattle.sync_drill.proofs.counts.count_transitions.Goals as goal

pub logs-init : goal.logs-init
logs-init c = record { within = omega arith; counted = none_counted c.args.joint.now c.args.merger.now _ _ refl refl }

pub transition-requires-clause-drawn : goal.transition-requires-clause-drawn
transition-requires-clause-drawn c =
    let j = c.logs-log-end.ensures.joint in
    merger_drawn c.args.joint.now c.args.merger.now c.requires j.logs j.stands

pub transition-requires-clause-fits : goal.transition-requires-clause-fits
transition-requires-clause-fits c = merger_fits c.args.joint.now c.args.merger.now c.requires

pub logs-preserved : goal.logs-preserved
logs-preserved c = record {
  within = omega (arith, c.logs-log-end.ensures.logs);
  counted = transition_counted c.args.joint.now c.args.merger.now c.in_ok-transition.transition _ _ c.logs.log (omega (arith, c.logs-log-end.ensures.logs)) c.in_ok-transition.ensures (rw (c.in_ok-count.ensures, c.len.ensures) refl) c.logs.invariant.counted;
}

pub returns : goal.returns
returns c = transitions_counted c.args.joint.now c.args.merger.now _ c.logs.log (omega (arith, c.logs-log-end.ensures.logs)) c.logs.invariant.counted
