-- A tree kept in a table: what the entries of its nodes say.
use Rattle.std.specs.Prelude.{◌≡◌, ℕ, ◌+◌, ◌-◌, Bool, false, not, ◌&&◌, ◌||◌, List, [], ◌∷◌, Option, None, Some, if◌then◌else◌, is_none}
use Rattle.std.specs.FinMap as map
use Rattle.sync_path.specs.Paths.{Node, parent}
use Rattle.sync_path.specs.Children.{is_child, IsChildCount}
use Rattle.sync_command.specs.Maps.{IsTreeMap, Store, at, store}
use Rattle.sync_command.specs.Values.{is_dir, is_empty}
use Rattle.sync_command.specs.declared.values.Value.{Value}
use Rattle.sync_command.specs.declared.values.Value.TheVariants as value
use Rattle.apply_model.specs.declared.table.Entry.{Entry}

-- the entry of each node
abbrev pub Table : Type 0
Table = Node → Option Entry

-- the value that an entry gives; a node without one is empty
abbrev pub value_in : Option Entry → Value
value_in None = value.Empty
value_in (Some e) = e.value

abbrev pub children_in : Option Entry → ℕ
children_in None = 0
children_in (Some e) = e.children

-- the map of what the entries hold
abbrev pub map_of : List (Node × Entry) → Store
map_of [] = map.empty
map_of (e ∷ es) = store (map_of es) e.0 e.1.value

-- a map holds something at the node
abbrev pub is_full : Store → Node → Bool
is_full m p = not (is_empty (at m p))

-- ---- counts of children

-- the map is a tree, and each entry counts the children that are full
pub record IsKept (m : Store) (entry : Table) : Type 0 where
  pub tree : IsTreeMap m
  pub counts : (q : Node) → IsChildCount (is_full m) q (children_in (entry q))

-- ---- changes of an entry

-- with another value
abbrev pub revalued : Value → Option Entry → Option Entry
revalued v None = None
revalued v (Some e) = Some (record { value = v; children = e.children })

-- with one child more, or one fewer
abbrev pub recounted : Bool → Option Entry → Option Entry
recounted more None = None
recounted more (Some e) = Some (record { value = e.value; children = if more then e.children + 1 else e.children - 1 })

-- the entry of a node without children
abbrev pub entry_with : Value → Option Entry
entry_with v = Some (record { value = v; children = 0 })

-- the entry of q, where the node n begins or ceases to be full
abbrev pub with_child : Bool → Node → Table → Table
with_child more n entry q = if is_child n q then recounted more (entry q) else entry q

-- ---- parents

-- some entry gives the node's parent as a directory
abbrev pub any_dir_above : Node → List (Node × Entry) → Bool
any_dir_above n [] = false
any_dir_above n (e ∷ es) = (is_child n e.0 && is_dir e.1.value) || any_dir_above n es

-- ---- children

-- p is a child of the node, or a root where there is none
abbrev pub is_below : Option Node → Node → Bool
is_below None p = is_none (parent p)
is_below (Some q) p = is_child p q

-- the same of a node that is not empty
abbrev pub is_full_child : Option Node → Node → Value → Bool
is_full_child above p v = is_below above p && not (is_empty v)

-- the nodes of the entries that are such children
abbrev pub full_children : Option Node → List (Node × Entry) → List Node
full_children above [] = []
full_children above (e ∷ es) = if is_full_child above e.0 e.1.value then e.0 ∷ full_children above es else full_children above es
