-- What a joint of logs shows of them.
use Rattle.std.specs.Prelude.{◌≡◌, ◌&&◌, ◌||◌, ℕ, Bool, true, false, List, [], ◌∷◌, map, Option, Some, None, slice_get, if◌then◌else◌}
use Rattle.std.specs.Option.{option_map}
use Rattle.sync_path.specs.Paths.{Node, same_path, comes_before}
use Rattle.sync_command.specs.declared.values.Value.{Value}
use Rattle.sync_command.specs.declared.commands.Row.{Row}
use Rattle.sync_command.specs.Changes.{Change}
use Rattle.canon_set.specs.Logs.{names, net}
use Rattle.canon_set.specs.Leaving.{above}
use Rattle.canon_set.specs.Sets.{canonical}
use Rattle.canon_set.specs.Sums.{Sum, StandsFor}
use Rattle.refluent.specs.CommonTrees.{AllChange, HasCommonTree, least_common_tree}

-- ---- nodes

-- some log touches the node, or one under it
abbrev pub concerns : List (List Change) → Node → Bool
concerns [] p = false
concerns (log ∷ logs) p = (names log p || above log p) || concerns logs p

-- the value of the row of a node
abbrev pub value_in : List Row → Node → Option Value
value_in [] p = None
value_in (row ∷ rows) p = if same_path p row.path then Some row.value else value_in rows p

-- the node comes before those of all rows
abbrev pub comes_before_all : Node → List Row → Bool
comes_before_all p [] = true
comes_before_all p (row ∷ rows) = comes_before p row.path && comes_before_all p rows

-- the rows are in path order, and each node has one
abbrev pub is_ascending : List Row → Bool
is_ascending [] = true
is_ascending (row ∷ rows) = comes_before_all row.path rows && is_ascending rows

abbrev pub some_if : Bool → Value → Option Value
some_if false v = None
some_if true v = Some v

-- the node and the value at a place
abbrev pub path_at : List Row → ℕ → Option Node
path_at rows place = option_map (λ r. r.path) (slice_get rows place)

abbrev pub value_at : List Row → ℕ → Option Value
value_at rows place = option_map (λ r. r.value) (slice_get rows place)

-- ---- joints

-- what is seen of a joint: the net set of each log, and the nodes with what the least common tree holds there
pub record Joined : Type 0 where
  pub sets : List (List Change)
  pub nodes : List Row

-- the canonical list of the net set of each log
abbrev pub net_sets : List (List Change) → List (List Change)
net_sets logs = map (λ log. canonical (net log)) logs

-- a joint stands for logs that some tree takes together: it has their net sets, and the touched nodes and those
-- above them in path order, with the values of the least common tree
pub record StandsForAll (j : Joined) (logs : List (List Change)) : Type 0 where
  pub change : AllChange logs
  pub common : HasCommonTree logs
  pub sets : j.sets ≡ net_sets logs
  pub order : is_ascending j.nodes ≡ true
  pub nodes : (p : Node) → value_in j.nodes p ≡ some_if (concerns logs p) (least_common_tree logs p)

-- a joint stands for some logs
pub record IsJoint (j : Joined) : Type 0 where
  pub logs : List (List Change)
  pub stands : StandsForAll j logs

-- sums stand for logs, one for each
abbrev pub EachStandsFor : List Sum → List (List Change) → Type 0
EachStandsFor [] [] = Unit {0}
EachStandsFor [] (log ∷ logs) = ⊥
EachStandsFor (s ∷ sums) [] = ⊥
EachStandsFor (s ∷ sums) (log ∷ logs) = StandsFor s log × EachStandsFor sums logs

-- each of the sums is that of a log
pub record AreSums (sums : List Sum) : Type 0 where
  pub logs : List (List Change)
  pub stand : EachStandsFor sums logs
