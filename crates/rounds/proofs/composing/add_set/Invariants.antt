use Rattle.std.proofs.Common.{List, ◌++◌, take}
use Rattle.sync_command.specs.Changes.{Change}
use Rattle.canon_set.specs.Sums.{StandsFor}
use Rattle.rounds.proofs.composing.add_set.Given as goal

abbrev pub invariant-commands : goal.invariant-commands
invariant-commands l = (cs : List Change) → StandsFor l.initial.sum cs → StandsFor l.sum (cs ++ take l.command-index l.commands)
