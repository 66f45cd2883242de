use Rattle.std.proofs.Common.{◌∙◌, sym, ap}
use Rattle.std.specs.Prelude.{option_copied}
use Rattle.apply_model.specs.Tables.{is_below}
use Rattle.apply_model.proofs.Children.{child_by, root_by}
use Rattle.apply_model.proofs.table.is_below.Goals as goal

pub returns-in-Some : goal.returns-in-Some
returns-in-Some c = child_by c.parent_of.result c.args.path.now c.in-Some.above.now c.parent_of.ensures.0 c.parent_of.ensures.1 ∙ ap (λ o. is_below (option_copied o) c.args.path.now) (sym c.in-Some.is)

pub returns-in-None : goal.returns-in-None
returns-in-None c = root_by c.args.path.now c.depth.result c.depth.ensures.names c.depth.ensures.some ∙ ap (λ o. is_below (option_copied o) c.args.path.now) (sym c.in-None.is)
