-- Net commands by the numbers of their logs and their places in the logs' net sets.
use Rattle.std.specs.Prelude.{◌≡◌, ℕ, zero, suc, List, [], ◌∷◌, map, slice_get, Option, Some, if◌then◌else◌}
use Rattle.sync_command.specs.Changes.{Change}
use Rattle.refluent.specs.declared.joint.Pick.{Pick}
use Rattle.refluent.specs.Sets.{is_in}
use Rattle.pref_list.specs.Ranking.{set_of}

-- the net command of a pick
abbrev pub command_of : List (List Change) → Pick → Option Change
command_of sets pick = slice_get (set_of sets pick.log) pick.place

-- the picks are of these commands, one for each
abbrev pub ArePicksOf : List (List Change) → List Pick → List Change → Type 0
ArePicksOf sets picks cs = map (command_of sets) picks ≡ map Some cs

-- the place of the first set that has the command, counted from 0
abbrev pub first_with : List (List Change) → Change → ℕ
first_with [] c = zero
first_with (set ∷ sets) c = if is_in set c then zero else suc (first_with sets c)

-- the number of the least log that has a drawn command
abbrev pub log_of : List (List Change) → Change → ℕ
log_of sets c = suc (first_with sets c)
