-- On what conditions the calls of a tree can be done.
use Rattle.std.specs.Prelude.{◌≡◌, true, false, Option, Some, None, ⊤}
use Rattle.sync_path.specs.Paths.{Node, parent}
use Rattle.sync_command.specs.Values.{is_dir, is_empty}
use Rattle.sync_command.specs.Trees.{Holding}
use Rattle.apply_model.specs.Parents.{IsBelowDir}
-- what `children` lists
pub use Rattle.apply_model.specs.Children.{AreBelow, AreChildren}

-- every child of the node is empty
abbrev pub HasNoChild : Holding → Node → Type 0
HasNoChild t n = (p : Node) → parent p ≡ Some n → is_empty (t p) ≡ true

-- a file is put where no directory is, below a directory or as a root
pub record CanPut (t : Holding) (n : Node) : Type 0 where
  pub no_dir : is_dir (t n) ≡ false
  pub below : IsBelowDir t n

-- a directory is made where nothing is, below a directory or as a root
pub record CanMake (t : Holding) (n : Node) : Type 0 where
  pub free : is_empty (t n) ≡ true
  pub below : IsBelowDir t n

-- a file is removed, and a directory without children
pub record CanRemove (t : Holding) (n : Node) : Type 0 where
  pub full : is_empty (t n) ≡ false
  pub last : HasNoChild t n

-- the children of a directory are listed, and the roots
abbrev pub CanList : Holding → Option Node → Type 0
CanList t None = ⊤
CanList t (Some n) = is_dir (t n) ≡ true
