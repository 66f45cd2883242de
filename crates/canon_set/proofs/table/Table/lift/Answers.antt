use Rattle.std.proofs.Common.{None, not, refl, ap, ◌∙◌, cond, unwrap_or}
use Rattle.std.specs.Ordering.{is_eq}
use Rattle.std.specs.HashMap.{get}
use Rattle.sync_path.specs.Paths.{path_cmp}
use Rattle.sync_path.specs.Order.{path_eq}
use Rattle.sync_command.specs.Values.{is_empty}
use Rattle.canon_set.proofs.TableCounts.{lifts}
use Rattle.canon_set.proofs.table.Table.lift.Goals as goal

pub returns-clause-ok : goal.returns-clause-ok
returns-clause-ok c = lifts c.args.self.now c.reserve.new.self c.recount.new.self (record { touched = c.recount.new.self.touched; above = c.remove.new.self }) c.put.new.self c.args.command.node c.args.way.now _ _ c.unwrap_or-children.result
    c.requires.way c.in_ok-reserve.ensures.entries c.in_ok-reserve.ensures.touched c.recount.ensures.ok c.recount.ensures.touched (ap not (c.is_empty-is_full.ensures ∙ ap is_empty c.new_value.ensures)) c.requires.known c.requires.untouched refl
    (λ p. c.remove.ensures.updates.0 p ∙ ap (λ q. cond (is_eq (path_cmp q p)) None (get path_eq c.recount.new.self.above p)) c.path.ensures)
    (c.unwrap_or-children.ensures ∙ ap (λ o. unwrap_or o 0) (c.remove.ensures.value ∙ ap (λ q. get path_eq c.recount.new.self.above q) c.path.ensures)) c.put.ensures.entries
