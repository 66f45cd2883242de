-- What is still to come of the clashes, by the state of a walk.
use Rattle.std.specs.Prelude.{◌≡◌, ◌<◌, ◌≤◌, ◌+◌, ◌*◌, ◌-◌, ℕ, List, [], ◌∷◌, ◌++◌, map, length, drop, Option, Some, None}
use Rattle.std.specs.List.{flat_map}
use Rattle.sync_path.specs.Paths.{Node, parent}
use Rattle.sync_command.specs.declared.commands.Row.{Row}
use Rattle.sync_command.specs.Changes.{Change}
use Rattle.refluent.specs.Joints.{Joined, path_at}
use Rattle.clash_list.specs.declared.clashes.Clash.{Clash}
use Rattle.clash_list.specs.declared.clashes.Clash.TheVariants.{Same, Below}
use Rattle.clash_list.specs.declared.drawn.Kept.TheVariants.{NoDirectory, Something}
use Rattle.clash_list.specs.DrawnAt.{logs_at, logs_in}
use Rattle.clash_list.specs.ClashLists.{Placed, pairs, products, children_from, clashes_from}

-- ---- one group: the clashes at a node, or at a node and a child

-- the first of the logs with those from a place on, and then the others' pairs
abbrev pub pairs_left : (ℕ → ℕ → Clash) → List ℕ → List ℕ → List Clash
pairs_left clash [] rights = []
pairs_left clash (left ∷ logs) rights = map (clash left) rights ++ pairs clash logs

-- the first of the logs with those that are left, and then the others with all
abbrev pub products_left : (ℕ → ℕ → Clash) → List ℕ → List ℕ → List ℕ → List Clash
products_left clash [] rights all = []
products_left clash (left ∷ lefts) rights all = map (clash left) rights ++ products clash lefts all

abbrev pub group_left : ℕ → Option ℕ → List ℕ → List ℕ → ℕ → ℕ → List Clash
group_left node None lefts rights left right = pairs_left (Same node) (drop left lefts) (drop right lefts)
group_left node (Some child) lefts rights left right =
    products_left (Below node child) (drop left lefts) (drop right rights) rights

-- ---- the groups after it

-- those of given logs at a node with the commands of a child
abbrev pub below_by : List (List Change) → ℕ → List ℕ → Placed → List Clash
below_by sets node lefts child = products (Below node child.place) lefts (logs_at Something sets child.path)

abbrev pub below_from : Joined → ℕ → List ℕ → Option Node → ℕ → List Clash
below_from j node lefts None from = []
below_from j node lefts (Some p) from = flat_map (below_by j.sets node lefts) (children_from j.nodes p from)

-- the groups of the node that come after that of the node itself or of a child
abbrev pub groups_left : Joined → ℕ → Option ℕ → List ℕ → List Clash
groups_left j node None lefts =
    below_from j node (logs_in NoDirectory j.sets (path_at j.nodes node)) (path_at j.nodes node) 0
groups_left j node (Some child) lefts = below_from j node lefts (path_at j.nodes node) (child + 1)

-- what is still to come
abbrev pub walk_left : Joined → ℕ → Option ℕ → List ℕ → List ℕ → ℕ → ℕ → List Clash
walk_left j node child lefts rights left right =
    group_left node child lefts rights left right ++ (groups_left j node child lefts ++ clashes_from j (node + 1))

-- ---- states

-- the place of a child of the node at the other place
pub record IsChildOf (rows : List Row) (node child : ℕ) : Type 0 where
  pub up : Node
  pub path : Node
  pub above : path_at rows node ≡ Some up
  pub at : path_at rows child ≡ Some path
  pub under : parent path ≡ Some up

-- the second log of the pair that comes first
abbrev pub first_right : Option ℕ → ℕ → ℕ
first_right None left = left + 1
first_right (Some child) left = 0

abbrev pub count_of : Option ℕ → List ℕ → List ℕ → ℕ
count_of None lefts rights = length lefts
count_of (Some child) lefts rights = length rights

-- a child is one of the node, past the last node there are no logs, and the second log of the next pair is there, or
-- the first one of its row
pub record IsState (j : Joined) (node : ℕ) (child : Option ℕ) (lefts rights : List ℕ) (left right : ℕ) : Type 0 where
  pub below : (k : ℕ) → child ≡ Some k → IsChildOf j.nodes node k
  pub over : length j.nodes ≤ node → lefts ≡ []
  pub turn : count_of child lefts rights ≤ right → right ≡ first_right child left

-- the groups of a node from that of this child on, if there is one
abbrev pub below_next : Joined → ℕ → List ℕ → Option ℕ → List Clash
below_next j node lefts None = []
below_next j node lefts (Some child) =
    products (Below node child) lefts (logs_in Something j.sets (path_at j.nodes child)) ++ below_from j node lefts (path_at j.nodes node) (child + 1)

abbrev pub step_of : Option ℕ → ℕ
step_of None = 0
step_of (Some child) = child + 1

-- more than there are groups to come
abbrev pub steps_left : Joined → ℕ → Option ℕ → ℕ
steps_left j node child = (length j.nodes - node) * (length j.nodes + 2) - step_of child

-- a child of the node that has not come before
pub record IsLater (j : Joined) (node : ℕ) (child : Option ℕ) (next : ℕ) : Type 0 where
  pub of : IsChildOf j.nodes node next
  pub after : step_of child ≤ next
  pub low : next < length j.nodes
