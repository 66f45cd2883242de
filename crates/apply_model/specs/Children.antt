-- The children of a node.
use Rattle.std.specs.Prelude.{◌≡◌, ◌↔◌, false, IsTrue, List, Option, All, AllPairs, Contains}
use Rattle.sync_path.specs.Paths.{Node, parent, comes_before}
use Rattle.sync_command.specs.Trees.{Holding}
use Rattle.sync_command.specs.Values.{is_empty}

-- paths in path order, each once, all with this parent; roots where there is none
pub record AreBelow (above : Option Node) (found : List Node) : Type 0 where
  pub order : AllPairs (λ p q. IsTrue (comes_before p q)) found
  pub parents : All (λ p. parent p ≡ above) found

-- just the nodes that have this parent and are not empty
abbrev pub AreChildren : Holding → Option Node → List Node → Type 0
AreChildren t above found = (p : Node) → Contains found p ↔ ((parent p ≡ above) × (is_empty (t p) ≡ false))
