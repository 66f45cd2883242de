use Rattle.std.proofs.Common.{not, ap, ◌∙◌}
use Rattle.sync_command.specs.Values.{is_empty}
use Rattle.canon_set.proofs.TableCounts.{entered}
use Rattle.canon_set.proofs.table.Table.enter.Goals as goal

pub returns-clause-ok : goal.returns-clause-ok
returns-clause-ok c = entered c.args.self.now c.reserve.new.self c.raise.new.self c.put.new.self c.args.command.node c.args.way.now _ _ c.requires.way c.in_ok-reserve.ensures.entries c.in_ok-reserve.ensures.touched
    c.in_ok-raise.ensures.ok c.in_ok-raise.ensures.touched (ap not (c.is_empty-is_full.ensures ∙ ap is_empty c.new_value.ensures)) c.put.ensures.entries
