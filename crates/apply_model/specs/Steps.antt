-- What a command does to the table.
use Rattle.std.specs.Prelude.{◌≡◌, true, false, if◌then◌else◌, ⊤}
use Rattle.sync_path.specs.Paths.{Node, parent, same_path}
use Rattle.sync_command.specs.Values.{is_empty}
use Rattle.sync_command.specs.declared.values.Value.{Value}
use Rattle.apply_model.specs.Tables.{Table, entry_with, revalued, with_child}
use Rattle.apply_model.specs.declared.table.Step.{Step}
use Rattle.apply_model.specs.declared.table.Step.TheVariants.{Make, Remove, Replace}

-- a step that counts the children of a parent anew has the parent of the node
abbrev pub NamesParent : Step → Node → Type 0
NamesParent (Make above) n = above ≡ parent n
NamesParent (Remove above) n = above ≡ parent n
NamesParent Replace n = ⊤

-- the step from the old value at the node to the new one
abbrev pub IsStep : Step → Node → Value → Value → Type 0
IsStep (Make above) n old new = (is_empty old ≡ true) × (is_empty new ≡ false) × (above ≡ parent n)
IsStep (Remove above) n old new = (is_empty old ≡ false) × (is_empty new ≡ true) × (above ≡ parent n)
IsStep Replace n old new = is_empty old ≡ is_empty new

-- the table after the step gave the node the value
abbrev pub after_step : Step → Node → Value → Table → Table
after_step (Make above) n v entry p = if same_path p n then entry_with v else with_child true n entry p
after_step (Remove above) n v entry p = if same_path p n then revalued v (entry p) else with_child false n entry p
after_step Replace n v entry p = if same_path p n then revalued v (entry p) else entry p
