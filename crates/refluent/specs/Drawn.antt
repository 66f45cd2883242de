-- The commands that a merger draws from: those of the net sets of the logs.
use Rattle.std.specs.Prelude.{List, [], ◌∷◌, ◌++◌}
use Rattle.sync_command.specs.Changes.{Change}
use Rattle.canon_set.specs.Logs.{net}
use Rattle.canon_set.specs.Sets.{canonical}
use Rattle.refluent.specs.Sets.{without_repeats}

-- the commands of the sets, one set after another
abbrev pub in_turn : List (List Change) → List Change
in_turn [] = []
in_turn (set ∷ sets) = set ++ in_turn sets

-- the union of the sets: equal commands of several sets are one, in the place of the first set that has it
abbrev pub drawn_of : List (List Change) → List Change
drawn_of sets = without_repeats (in_turn sets)

-- the net set of log 1 in the admissible order, then that of log 2, up to the last
abbrev pub nets_in_turn : List (List Change) → List Change
nets_in_turn [] = []
nets_in_turn (log ∷ logs) = canonical (net log) ++ nets_in_turn logs

-- the union of the net sets: equal commands of several logs are one, in the place of the least log that has it
abbrev pub drawn_commands : List (List Change) → List Change
drawn_commands logs = without_repeats (nets_in_turn logs)
