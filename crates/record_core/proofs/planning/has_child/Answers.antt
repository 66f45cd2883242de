use Rattle.std.proofs.Common.{ap, length, ◌∙◌}
use Rattle.std.specs.Bool.{◌==◌}
use Rattle.record_core.proofs.Listing.{has_child_known}
use Rattle.record_core.proofs.planning.has_child.Goals as goal

pub returns-clause-known : goal.returns-clause-known
returns-clause-known g c = has_child_known _ c.args.path.now c.in_ok-children.children.items c.is_empty.result c.in_ok-children.ensures.tree c.in_ok-children.ensures.known (c.is_empty.ensures ∙ ap (λ l. length l == 0) c.as_slice.ensures.value)
