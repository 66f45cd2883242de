use Rattle.std.proofs.Common.{Some, sym, ap, ◌∙◌}
use Rattle.std.specs.Option.{option_map}
use Rattle.sync_command.specs.Changes.{is_down}
use Rattle.refluent.proofs.ClaimChanges.{change_said}
use Rattle.refluent.proofs.numbering.change_of.Goals as goal

pub returns-else-same : goal.returns-else-same
returns-else-same c = sym (ap (option_map is_down) (change_said c.args.claim.now _ _ _ c.in-Touches.is (sym c.same.ensures.value ∙ c.if-same.false)) ∙ ap Some (sym (c.is_down.ensures c.args.claim.now.path)))
