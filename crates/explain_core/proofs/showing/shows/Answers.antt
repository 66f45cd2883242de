use Rattle.std.proofs.Common.{arith, ap, sym, subst, ◌∙◌, Some, ◌<◌, length, get_or, ℕ, map}
use Rattle.refluent.specs.Joints.{path_at}
use Rattle.sync_command.proofs.CallerLemmas.{command_at-node}
use Rattle.pref_list.proofs.CallerLemmas.{set_at_number}
use Rattle.explain_core.proofs.ChainLaws.{not_both}
use Rattle.explain_core.proofs.Testing.{never_shown, never_there, shown_is, shown_log, shown_node, shown_via}
use Rattle.explain_core.proofs.showing.shows.Goals as goal
use Rattle.explain_core.proofs.showing.shows.Goals.{then-reason-eq0-via-then-reason-eq0, then-reason-eq0-via-else-reason-eq0+then-logs-reason, then-nodes-reason-via-then-nodes-reason, then-nodes-reason-via-else-nodes-reason+then-not-are_within}

pub returns-then-reason-eq0 : goal.returns-then-reason-eq0
returns-then-reason-eq0 c = never_shown c.args.joint.now c.args.set.now c.args.reason.now (λ s.
    let l = shown_log c.args.joint.now c.args.set.now c.args.reason.now s in
    elim c.then-reason-eq0.branch [
      | then-reason-eq0-via-then-reason-eq0 w ↦ absurd (let z = w.if-reason-eq0.true in omega (arith, z, l.0))
      | then-reason-eq0-via-else-reason-eq0+then-logs-reason w ↦ absurd (let m = w.logs.ensures.logs in let z = w.if-logs-reason.true in omega (arith, m, z, l.1))
    ])

pub returns-then-nodes-reason : goal.returns-then-nodes-reason
returns-then-nodes-reason c = never_shown c.args.joint.now c.args.set.now c.args.reason.now (λ s.
    elim c.then-nodes-reason.branch [
      | then-nodes-reason-via-then-nodes-reason w ↦ absurd (let n = c.nodes.ensures in let z = w.if-nodes-reason.true in let l = shown_node c.args.joint.now c.args.set.now c.args.reason.now s in omega (arith, n, z, l))
      | then-nodes-reason-via-else-nodes-reason+then-not-are_within w ↦ not_both w.are_within.result (w.are_within.ensures.1 (subst (λ l. (k : ℕ) → k < length l → get_or l k 0 < length c.args.joint.now.nodes) (sym c.as_slice-via.ensures)
          (shown_via c.args.joint.now c.args.set.now c.args.reason.now s))) w.if-not-are_within.true
    ])

pub is_chain-requires-clause-place : goal.is_chain-requires-clause-place
is_chain-requires-clause-place c = c.node.ensures ∙ ap Some (command_at-node c.set.result.now c.node.result.now c.in-Some.command.now (sym c.in-Some.ensures))

pub returns-in-Some : goal.returns-in-Some
returns-in-Some c =
    let low : 0 < c.args.reason.now.log = let z = c.if-reason-eq0.false in omega (arith, z) in
    let within : (k : ℕ) → k < length c.args.reason.now.via → get_or c.args.reason.now.via k 0 < length c.args.joint.now.nodes = subst (λ l. (k : ℕ) → k < length l → get_or l k 0 < length c.args.joint.now.nodes) c.as_slice-via.ensures (c.are_within.ensures.0 c.if-not-are_within.false) in
    shown_is c.args.joint.now c.args.set.now c.args.reason.now c.set.result.now (set_at_number c.args.joint.now.sets c.args.reason.now.log c.set.result.now low c.set.ensures) c.node.result.now c.node.ensures
    c.in-Some.command.now (sym c.in-Some.ensures) within c.is_chain.result (λ xs e. c.is_chain.ensures xs (ap (map (path_at c.args.joint.now.nodes)) c.as_slice-via.ensures ∙ e))

pub returns-in-None : goal.returns-in-None
returns-in-None c =
    let low : 0 < c.args.reason.now.log = let z = c.if-reason-eq0.false in omega (arith, z) in
    never_there c.args.joint.now c.args.set.now c.args.reason.now c.set.result.now (set_at_number c.args.joint.now.sets c.args.reason.now.log c.set.result.now low c.set.ensures) c.node.result.now c.node.ensures (sym c.in-None.ensures)
