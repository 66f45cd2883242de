use Rattle.std.proofs.Common.{◌≡◌, ◌++◌, take}
use Rattle.std.specs.List.{filter}
use Rattle.transition.specs.Parts.{is_missing}
use Rattle.transition.proofs.transitions.add_missing.Given as goal

abbrev pub invariant-merger : goal.invariant-merger
invariant-merger l = l.commands.items ≡ l.initial.commands.items ++ filter (is_missing l.net) (take l.command-index l.merger)
