-- The commands of a log that is read as a whole.
use Rattle.std.specs.Prelude.{◌≡◌, List}
use Rattle.sync_command.specs.declared.values.Version.{Version}
use Rattle.sync_command.specs.Changes.{Change}
use Rattle.log_text.specs.declared.commands.CommandList.{CommandList}

-- a first line of this version and these commands were read
pub record IsCommandList (list : CommandList) (past : Unit {0}) (found : Version × List Change) : Type 0 where
  pub version : list.version ≡ found.0
  pub commands : list.commands.items ≡ found.1
