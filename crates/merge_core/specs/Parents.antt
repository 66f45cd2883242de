-- The parents of the nodes of a joint, as a list of places.
use Rattle.std.specs.Prelude.{◌≡◌, ◌<◌, ℕ, List, length, slice_get, Option, Some}
use Rattle.sync_path.specs.Paths.{Node, parent}
use Rattle.sync_command.specs.declared.commands.Row.{Row}
use Rattle.refluent.specs.Picks.{IsParentPlace}
use Rattle.pref_list.specs.Numbers.{IsNodeAt}

-- the places of the parents of all nodes
pub record AreParentsOf (nodes : List Row) (parents : List (Option ℕ)) : Type 0 where
  pub many : length parents ≡ length nodes
  pub each : (i : ℕ) (o : Option ℕ) (p : Node) → slice_get parents i ≡ Some o → IsNodeAt nodes i p → IsParentPlace nodes (parent p) o
  pub low : (i k : ℕ) → slice_get parents i ≡ Some (Some k) → k < i
  -- no node has two places
  pub unique : (i k : ℕ) (p : Node) → IsNodeAt nodes i p → IsNodeAt nodes k p → i ≡ k
