-- The tree that each log of a drill begins at.
use Rattle.std.specs.Prelude.{ℕ, zero, suc, ◌+◌, ◌%◌, ◌==◌, List, [], ◌∷◌, ◌++◌, map, decimal, if◌then◌else◌}
use Rattle.std.specs.List.{flat_map}
use Rattle.std.specs.FinMap as finmap
use Rattle.sync_path.specs.Paths.{Node}
use Rattle.sync_command.specs.declared.values.Value.{Value}
use Rattle.sync_command.specs.declared.values.Value.TheVariants.{Empty, Dir, File}
use Rattle.sync_command.specs.Changes.{Change}
use Rattle.sync_command.specs.Maps.{Store, stored}

-- ---- names

-- a letter and a number
abbrev pub name_of : ℕ → ℕ → List ℕ
name_of letter number = letter ∷ decimal number

-- `r` and a number
abbrev pub root_path : ℕ → Node
root_path root = name_of 114 root ∷ []

-- a root, and `n` and a number
abbrev pub child_path : ℕ → ℕ → Node
child_path root child = root_path root ++ name_of 110 child ∷ []

-- a child, and `m` and a number
abbrev pub grandchild_path : ℕ → ℕ → ℕ → Node
grandchild_path root child grandchild = child_path root child ++ name_of 109 grandchild ∷ []

-- ---- the tree

-- the numbers from one on, so many
unfoldable pub numbers_from : ℕ → ℕ → List ℕ
numbers_from first zero = []
numbers_from first (suc count) = first ∷ numbers_from (first + 1) count

-- an even child is a directory, an odd one a file with the byte `0`
abbrev pub child_value : ℕ → Value
child_value child = if child % 2 == 0 then Dir [] else File (48 ∷ [])

-- a command that makes a node
abbrev pub make : Node → Value → Change
make p v = record { node = p; old = Empty; new = v }

abbrev pub child_make : ℕ → ℕ → Change
child_make root child = make (child_path root child) (child_value child)

-- a root is a directory, and has 16 children
abbrev pub root_makes : ℕ → List Change
root_makes root = make (root_path root) (Dir []) ∷ map (child_make root) (numbers_from 0 16)

-- there are 64 roots
abbrev pub base_makes : List Change
base_makes = flat_map root_makes (numbers_from 0 64)

-- the tree that is made so
unfoldable pub base_tree : Store
base_tree = stored finmap.empty base_makes
