-- Equal sets of commands.
use Rattle.std.specs.Prelude.{◌≡◌, true, List}
use Rattle.sync_path.specs.Paths.{Node}
use Rattle.sync_command.specs.Changes.{Change}
use Rattle.sync_command.specs.Trees.{command_at, one_each}

-- two lists with one command per node and the same command at each
pub record IsSameSet (cs ds : List Change) : Type 0 where
  pub one : one_each ds ≡ true
  pub same : (p : Node) → command_at ds p ≡ command_at cs p
