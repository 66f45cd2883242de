use Rattle.std.proofs.Common.{Some, ap, sym, ◌∙◌, ◌≡◌}
use Rattle.sync_path.specs.Paths.{parent}
use Rattle.explain_core.proofs.Placing.{some_is}
use Rattle.explain_core.proofs.Testing.{child_test}
use Rattle.explain_core.proofs.showing.is_child.Goals as goal

pub returns : goal.returns
returns c p q at above =
    let low : c.node-2.result.now ≡ p = some_is (sym c.node-2.ensures ∙ at) in
    let high : c.node.result.now ≡ q = some_is (sym c.node.ensures ∙ above) in
    child_test p q c.parent_of.result (λ b. ap parent (sym low) ∙ c.parent_of.ensures.0 b ∙ ap Some high) (λ e. c.parent_of.ensures.1 (ap parent low ∙ e ∙ ap Some (sym high)))
