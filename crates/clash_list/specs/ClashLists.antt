-- The list of all clashes of a joint.
use Rattle.std.specs.Prelude.{◌+◌, ℕ, List, [], ◌∷◌, ◌++◌, map, drop}
use Rattle.std.specs.List.{filter, flat_map}
use Rattle.sync_path.specs.Paths.{Node}
use Rattle.sync_command.specs.declared.commands.Row.{Row}
use Rattle.sync_command.specs.Changes.{Change}
use Rattle.sync_path.specs.Children.{is_child}
use Rattle.refluent.specs.Joints.{Joined}
use Rattle.clash_list.specs.declared.clashes.Clash.{Clash}
use Rattle.clash_list.specs.declared.clashes.Clash.TheVariants.{Same, Below}
use Rattle.clash_list.specs.declared.drawn.Kept.TheVariants.{Every, NoDirectory, Something}
use Rattle.clash_list.specs.DrawnAt.{logs_at}

-- a node with its place in the joint
pub record Placed : Type 0 where
  pub place : ℕ
  pub path : Node

-- nodes with their places, the first of which is the given one
abbrev pub placed_from : ℕ → List Row → List Placed
placed_from place [] = []
placed_from place (row ∷ rows) = record { place = place; path = row.path } ∷ placed_from (place + 1) rows

-- the nodes of a joint from a place on
abbrev pub nodes_from : List Row → ℕ → List Placed
nodes_from rows from = placed_from from (drop from rows)

-- those of them that are children of a node
abbrev pub children_from : List Row → Node → ℕ → List Placed
children_from rows p from = filter (λ at. is_child at.path p) (nodes_from rows from)

-- each of the logs with each of those after it
abbrev pub pairs : (ℕ → ℕ → Clash) → List ℕ → List Clash
pairs clash [] = []
pairs clash (left ∷ logs) = map (clash left) logs ++ pairs clash logs

-- each of the first logs with each of the second
abbrev pub products : (ℕ → ℕ → Clash) → List ℕ → List ℕ → List Clash
products clash lefts rights = flat_map (λ left. map (clash left) rights) lefts

-- the clashes of the drawn commands at a node with each other
abbrev pub same_at : List (List Change) → Placed → List Clash
same_at sets at = pairs (Same at.place) (logs_at Every sets at.path)

-- those of commands that leave the node other than a directory with commands that leave something at the child
abbrev pub below_at : List (List Change) → Placed → Placed → List Clash
below_at sets at child =
    products (Below at.place child.place) (logs_at NoDirectory sets at.path) (logs_at Something sets child.path)

-- the clashes of a node: with each other, and then with those of each child
abbrev pub clashes_at : Joined → Placed → List Clash
clashes_at j at = same_at j.sets at ++ flat_map (below_at j.sets at) (children_from j.nodes at.path 0)

-- the clashes of the nodes from a place on
abbrev pub clashes_from : Joined → ℕ → List Clash
clashes_from j from = flat_map (clashes_at j) (nodes_from j.nodes from)

-- all clashes, in order
abbrev pub clashes : Joined → List Clash
clashes j = clashes_from j 0
