use Rattle.std.proofs.Common.{◌≡◌, ◌++◌, map}
use Rattle.std.specs.List.{filter}
use Rattle.canon_set.specs.Tables.{touch_from, touches_in, is_untouched}
use Rattle.canon_set.proofs.table.Table.into_parts.Given as goal

-- what was pushed, and what is still to come
abbrev pub invariant-touched : goal.invariant-touched
invariant-touched l = l.touches.items ++ map touch_from l.path-iterator ≡ touches_in l.fn.self

abbrev pub invariant-above : goal.invariant-above
invariant-above l = l.paths.items ≡ filter (is_untouched l.fn.self) (map (λ e. e.0) l.yielded)
