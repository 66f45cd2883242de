-- Sets of commands as lists: membership and subsets.
use Rattle.std.specs.Prelude.{◌≡◌, Bool, true, false, not, ◌&&◌, ◌||◌, List, [], ◌∷◌}
use Rattle.std.specs.List.{filter}
use Rattle.sync_command.specs.Changes.{Change, same_change}

-- the set has the command
abbrev pub is_in : List Change → Change → Bool
is_in [] c = false
is_in (d ∷ ds) c = same_change c d || is_in ds c

-- each command of the first is one of the second
abbrev pub IsSubset : List Change → List Change → Type 0
IsSubset cs ds = (c : Change) → is_in cs c ≡ true → is_in ds c ≡ true

-- both have the same commands
abbrev pub HaveSameCommands : List Change → List Change → Type 0
HaveSameCommands cs ds = IsSubset cs ds × IsSubset ds cs

-- no command is in the list twice
abbrev pub all_differ : List Change → Bool
all_differ [] = true
all_differ (c ∷ cs) = not (is_in cs c) && all_differ cs

-- the second command is another one than the first
abbrev pub differs_from : Change → Change → Bool
differs_from c d = not (same_change d c)

-- each command at its first place only
abbrev pub without_repeats : List Change → List Change
without_repeats [] = []
without_repeats (c ∷ cs) = c ∷ filter (differs_from c) (without_repeats cs)
