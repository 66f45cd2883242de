use Rattle.std.proofs.Common.{arith, ap, Some, ◌∙◌}
use Rattle.std.proofs.lemmas.Option.{slice_get-get_or}
use Rattle.merge_core.proofs.NetPicks.{pick_at, least_found, least_nowhere, none_next}
use Rattle.merge_core.proofs.checking.first_log.Goals as goal

pub command_at-requires : goal.command_at-requires
command_at-requires c = pick_at c.args.joint.now c.logs-logs.ensures.joint c.args.picks.now c.args.command.now c.requires c.picks.at _ (slice_get-get_or c.args.picks.now c.picks.at _ c.picks-test.true)

pub returns-then-same : goal.returns-then-same
returns-then-same c =
    least_found c.args.joint.now c.logs-logs.ensures.joint c.args.picks.now c.args.command.now c.requires c.picks.at _ (slice_get-get_or c.args.picks.now c.picks.at _ c.picks-test.true)
    (c.command_at.ensures ∙ ap Some (c.same.ensures.0 c.if-same.true)) c.picks.invariant

pub picks-preserved : goal.picks-preserved
picks-preserved c =
    none_next c.args.joint.now c.logs-logs.ensures.joint c.args.picks.now c.args.command.now c.requires c.picks.at _ c.command_at.result.now c.same.result (slice_get-get_or c.args.picks.now c.picks.at _ c.picks-test.true)
    c.command_at.ensures c.same.ensures.1 c.if-same.false c.picks.invariant

pub returns : goal.returns
returns c =
    let over = c.picks-test.false in
    least_nowhere c.args.joint.now c.logs-logs.ensures.joint c.args.picks.now c.args.command.now c.requires (λ k pick low. c.picks.invariant k pick (omega (arith, over, low)))
