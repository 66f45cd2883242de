-- The tables of a board as those of the drawn commands of one tree.
use Rattle.std.specs.Prelude.{◌≡◌, ℕ, ◌<◌, true, List, Some}
use Rattle.sync_path.specs.Paths.{Node, parent}
use Rattle.sync_command.specs.Values.{kind_of}
use Rattle.sync_command.specs.Changes.{Change}
use Rattle.sync_command.specs.Trees.{Holding, IsTree}
use Rattle.refluent.specs.Sets.{is_in}
use Rattle.scan_board.specs.Tables.{Tables, node_of, leaves_of, starts_of, parent_of, command_count, node_count}
use Rattle.refluent.proofs.CallerLemmas.{IsDrawn}

-- the tables are of drawn commands of a tree: command i is cmd i, and node n is path n
pub record IsOf (t : Holding) (drawn : List Change) (cmd : ℕ → Change) (path : ℕ → Node) (b : Tables) : Type 0 where
  pub tree : IsTree t
  pub known : (c : Change) → is_in drawn c ≡ true → IsDrawn t drawn c
  pub here : (i : ℕ) → i < command_count b → is_in drawn (cmd i) ≡ true
  pub all : (c : Change) → is_in drawn c ≡ true → (i : ℕ) × (i < command_count b) × (cmd i ≡ c)
  pub once : (i j : ℕ) → i < command_count b → j < command_count b → cmd i ≡ cmd j → i ≡ j
  pub node : (i : ℕ) → i < command_count b → (cmd i).node ≡ path (node_of b i)
  pub leaves : (i : ℕ) → i < command_count b → leaves_of b i ≡ kind_of (cmd i).new
  pub starts : (n : ℕ) → n < node_count b → starts_of b n ≡ kind_of (t (path n))
  pub above : (n p : ℕ) → n < node_count b → parent_of b n ≡ Some p → parent (path n) ≡ Some (path p)
  pub root : (n p : ℕ) → n < node_count b → p < node_count b → parent (path n) ≡ Some (path p) → parent_of b n ≡ Some p
  pub apart : (n m : ℕ) → n < node_count b → m < node_count b → path n ≡ path m → n ≡ m
