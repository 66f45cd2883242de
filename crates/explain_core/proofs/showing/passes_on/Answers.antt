use Rattle.std.proofs.Common.{sym, ap, ◌∙◌, not, ◌&&◌, ◌≡◌, None}
use Rattle.std.specs.Prelude.{is_none}
use Rattle.sync_command.specs.Trees.{command_at}
use Rattle.explain_core.specs.Demands.{is_met}
use Rattle.explain_core.specs.FirstChains.{first_tree}
use Rattle.explain_core.proofs.Placing.{first_at, some_is}
use Rattle.explain_core.proofs.Testing.{nothing_some}
use Rattle.explain_core.proofs.showing.passes_on.Goals as goal

pub returns-then-is_none : goal.returns-then-is_none
returns-then-is_none c p at =
    let path = some_is (sym c.node.ensures ∙ at) in
    let none : command_at c.args.set.now p ≡ None = nothing_some c.at.result (command_at c.args.set.now p) (c.at.ensures ∙ ap (command_at c.args.set.now) path) c.if-is_none.ensures in
    let first = first_at c.args.joint.now.nodes c.requires.joint.stands.order c.args.place p c.first.result.now at c.first.ensures in
    ap not (c.is_met.ensures ∙ ap (is_met c.args.demand) (sym first)) ∙ sym (ap (λ o. is_none o && not (is_met c.args.demand (first_tree c.args.joint.now p))) none)
