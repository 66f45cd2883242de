use Rattle.std.proofs.Common.{◌≡◌, map}
use Rattle.std.specs.List.{filter}
use Rattle.std.specs.Map.Iter.{deref_pair}
use Rattle.sync_command.specs.Changes.{is_change}
use Rattle.canon_set.specs.Touches.{change_of}
use Rattle.canon_set.specs.Tables.{touch_from}
use Rattle.canon_set.proofs.table.Table.changes.Given as goal

abbrev pub invariant-touched : goal.invariant-touched
invariant-touched l = l.commands.items ≡ filter is_change (map change_of (map touch_from (map deref_pair l.yielded)))
