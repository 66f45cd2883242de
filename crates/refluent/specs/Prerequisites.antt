-- Prerequisites of commands within a set.
use Rattle.std.specs.Prelude.{◌≡◌, true, false, List, Some}
use Rattle.sync_path.specs.Paths.{Node, parent}
use Rattle.sync_command.specs.Values.{is_empty, is_dir}
use Rattle.sync_command.specs.Changes.{Change}
use Rattle.sync_command.specs.Trees.{Holding, command_at}

-- the set holds the prerequisites of each of its commands
pub record HoldsPrerequisites (t : Holding) (cs : List Change) : Type 0 where
  -- of one that makes a node non-empty whose parent the tree does not hold as a directory:
  -- some command that makes the parent a directory
  pub makes : (q n : Node) (c : Change) → parent n ≡ Some q → command_at cs n ≡ Some c →
      is_empty c.old ≡ true → is_empty c.new ≡ false → is_dir (t q) ≡ false →
      (d : Change) × (command_at cs q ≡ Some d) × (is_dir d.new ≡ true)
  -- of one that takes a directory away: the command that empties each child that the tree holds non-empty
  pub clears : (q n : Node) (d : Change) → parent n ≡ Some q → command_at cs q ≡ Some d →
      is_dir d.old ≡ true → is_dir d.new ≡ false → is_empty (t n) ≡ false →
      (c : Change) × (command_at cs n ≡ Some c) × (is_empty c.new ≡ true)
