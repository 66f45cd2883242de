use Rattle.std.proofs.Common.{ap, sym, subst, ◌∙◌, Some, ◌≡◌}
use Rattle.explain_core.specs.FirstChains.{first_chain}
use Rattle.explain_core.specs.Reasons.{AreAt}
use Rattle.explain_core.proofs.Listing.{has_place, reason_is}
use Rattle.explain_core.proofs.Placing.{some_is}
use Rattle.explain_core.proofs.walk.reason.Goals as goal

pub unreachable-requires : goal.unreachable-requires
unreachable-requires c = has_place c.args.joint.now c.logs-logs.ensures.joint c.args.pick c.command_at-command.result.now c.path.result.now c.command_at-command.ensures c.path.ensures c.in-None.ensures.none

pub returns : goal.returns
returns c d is =
    let same : c.command_at-command.result.now ≡ d = some_is (sym c.command_at-command.ensures ∙ is) in
    reason_is c.args.joint.now c.logs-logs.ensures.joint c.args.set.now d (record { log = c.args.pick.log; node = c.in-Some.node; via = c.new.result }) (c.requires.least d is)
    (c.in-Some.ensures.some ∙ ap Some (c.path.ensures ∙ ap (λ e. e.node) same))
    (subst (λ l. AreAt c.args.joint.now.nodes l (first_chain c.args.joint.now c.args.set.now d)) (sym c.new.ensures) (subst (λ e. AreAt c.args.joint.now.nodes c.in_ok-via-in-Some.via.items (first_chain c.args.joint.now c.args.set.now e)) same c.in_ok-via-in-Some.ensures))
