use Rattle.std.proofs.Common.{◌≡◌, ◌++◌, map}
use Rattle.std.specs.List.{filter}
use Rattle.sync_command.specs.Changes.{is_change}
use Rattle.canon_set.specs.Touches.{change_of}
use Rattle.canon_set.specs.Tables.{touch_from, touches_in}
use Rattle.canon_set.proofs.table.Table.into_changes.Given as goal

-- what was pushed, and what is still to come
abbrev pub invariant-touched : goal.invariant-touched
invariant-touched l = l.commands.items ++ filter is_change (map change_of (map touch_from l.path-iterator)) ≡ filter is_change (map change_of (touches_in l.fn.self))
