use Rattle.std.proofs.Common.{◌≡◌, Some, ap, sym, ◌∙◌}
use Rattle.std.specs.Prelude.{true}
use Rattle.std.specs.HashMap as hash
use Rattle.std.specs.Option.{option_copied}
use Rattle.sync_path.specs.Paths.{Node, parent}
use Rattle.sync_path.specs.Order.{path_eq}
use Rattle.apply_model.proofs.Tables.{child_written, put_in, root_written, with_child_same}
use Rattle.apply_model.proofs.table.fill.Goals.{in-Some+in_ok-add_child, in_default}
use Rattle.apply_model.proofs.table.fill.Goals as goal

pub returns-clause-ok : goal.returns-clause-ok
returns-clause-ok c = let old = hash.get path_eq c.args.nodes.now in let mid = hash.get path_eq c.match-above.nodes in
    let same : (p : Node) → hash.get path_eq c.reserve.new.self p ≡ old p = c.in_ok-reserve.ensures.entries.2 in
    put_in old mid _ c.args.path c.args.value (elim c.match-above.branch [
      | in-Some+in_ok-add_child w ↦ let up : parent c.args.path ≡ Some w.in-Some.above.now = sym c.requires ∙ ap option_copied w.in-Some.is in
          λ p. ap (λ m. hash.get path_eq m p) w.nodes-is ∙ child_written true (hash.get path_eq c.reserve.new.self) (hash.get path_eq w.add_child.new.nodes) c.args.path w.in-Some.above.now up w.in_ok-add_child.ensures.ok p
          ∙ with_child_same true c.args.path (hash.get path_eq c.reserve.new.self) old same p
      | in_default w ↦ root_written true old mid c.args.path (sym c.requires ∙ ap option_copied w.in_default.is) (λ p. ap (λ m. hash.get path_eq m p) w.nodes-is ∙ same p)
    ]) c.in-Ok.ensures.updates.0
