-- Clashes of drawn commands.
use Rattle.std.specs.Prelude.{◌≡◌, Bool, true, false, not, ◌&&◌, ◌||◌, List}
use Rattle.sync_path.specs.Paths.{same_path}
use Rattle.sync_command.specs.Values.{is_empty, is_dir}
use Rattle.sync_command.specs.Changes.{Change, same_change}
use Rattle.sync_path.specs.Children.{is_child}
use Rattle.refluent.specs.Sets.{is_in}

-- the first leaves a node other than a directory, and the second leaves a child of that node non-empty
abbrev pub clashes_below : Change → Change → Bool
clashes_below c d = not (is_dir c.new) && (is_child d.node c.node && not (is_empty d.new))

-- they name one node and differ, or one clashes with the other below its node
abbrev pub clash : Change → Change → Bool
clash c d = (same_path c.node d.node && not (same_change c d)) || (clashes_below c d || clashes_below d c)

-- no two commands of the set clash
abbrev pub HasNoClash : List Change → Type 0
HasNoClash cs = (c d : Change) → is_in cs c ≡ true → is_in cs d ≡ true → clash c d ≡ false
