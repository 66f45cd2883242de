use Rattle.std.proofs.Common.{◌≡◌, Some, ap, sym, ◌∙◌}
use Rattle.std.specs.Prelude.{false}
use Rattle.std.specs.HashMap as hash
use Rattle.std.specs.Option.{option_copied}
use Rattle.sync_path.specs.Paths.{parent}
use Rattle.sync_path.specs.Order.{path_eq}
use Rattle.apply_model.proofs.Tables.{child_written, taken_out}
use Rattle.apply_model.proofs.table.clear.Goals as goal

pub returns-in-Some : goal.returns-in-Some
returns-in-Some c = let up : parent c.args.path.now ≡ Some c.in-Some.above.now = sym c.requires ∙ ap option_copied c.in-Some.is in
    taken_out (hash.get path_eq c.args.nodes.now) (hash.get path_eq c.replace.new.nodes) _ c.args.path.now c.args.value c.replace.ensures
    (child_written false (hash.get path_eq c.replace.new.nodes) _ c.args.path.now c.in-Some.above.now up c.remove_child.ensures)
