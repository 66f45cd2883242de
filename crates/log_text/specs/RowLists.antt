-- The rows of a snapshot so far, with a directory among them that spares look-ups.
use Rattle.std.specs.Prelude.{◌≤◌, List, length, Option}
use Rattle.sync_path.specs.Paths.{Node}
use Rattle.sync_command.specs.declared.commands.Row.{Row}
use Rattle.sync_command.specs.Rows.{IsRowTree}
use Rattle.log_text.specs.declared.frame.TheConstants.{MAX_ITEMS}
use Rattle.log_text.specs.Reading.{IsGivenDir}

pub record AreRows (rows : List Row) (parent : Option Node) : Type 0 where
  pub few : length rows ≤ MAX_ITEMS
  pub tree : IsRowTree rows
  pub given : IsGivenDir rows parent
