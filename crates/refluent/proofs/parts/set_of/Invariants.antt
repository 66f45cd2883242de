use Rattle.std.proofs.Common.{◌≡◌, ◌++◌, not}
use Rattle.std.specs.List.{filter}
use Rattle.sync_command.specs.Changes.{is_down}
use Rattle.refluent.proofs.parts.set_of.Given as goal

abbrev pub invariant-given : goal.invariant-given
invariant-given l = record { downs : l.commands.items ≡ filter is_down l.yielded; others : l.others.items ≡ filter (λ c. not (is_down c)) l.yielded }

abbrev pub invariant-others : goal.invariant-others
invariant-others l = l.commands.items ≡ l.initial.commands.items ++ l.yielded
