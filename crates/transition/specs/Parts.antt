-- What a transition is put together from.
use Rattle.std.specs.Prelude.{Bool, List, [], ◌∷◌, is_none, if◌then◌else◌}
use Rattle.sync_path.specs.Paths.{Node}
use Rattle.sync_command.specs.declared.values.Value.{Value}
use Rattle.sync_command.specs.Values.{same_value}
use Rattle.sync_command.specs.Changes.{Change}
use Rattle.sync_command.specs.Trees.{command_at, new_or}

-- the command from one value to another, where they differ
abbrev pub difference : Node → Value → Value → List Change
difference p v w = if same_value v w then [] else record { node = p; old = v; new = w } ∷ []

-- from the new value of a command to what the set makes of its old one
abbrev pub undone : List Change → Change → List Change
undone set c = difference c.node c.new (new_or (command_at set c.node) c.old)

-- the set has no command at the node of this one
abbrev pub is_missing : List Change → Change → Bool
is_missing set c = is_none (command_at set c.node)
