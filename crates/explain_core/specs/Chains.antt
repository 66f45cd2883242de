-- Chains: why a drawn command is left out of a set.
use Rattle.std.specs.Prelude.{◌≡◌, Bool, true, false, not, ◌&&◌, ◌||◌, List, [], ◌∷◌, Option, Some, None, is_some, is_none, ◌⊎◌}
use Rattle.std.specs.List.{filter, list_any}
use Rattle.sync_path.specs.Paths.{Node, comes_before}
use Rattle.sync_command.specs.declared.values.Value.{Value}
use Rattle.sync_command.specs.Values.{is_empty, is_dir}
use Rattle.sync_command.specs.Changes.{Change}
use Rattle.sync_command.specs.Trees.{Holding, command_at}
use Rattle.canon_set.specs.Logs.{names}
use Rattle.sync_path.specs.Children.{is_child}
use Rattle.refluent.specs.CommonTrees.{least_common_tree}
use Rattle.refluent.specs.Drawn.{drawn_commands}
use Rattle.refluent.specs.Sets.{is_in}

-- from this node on, each node is the parent of the one before it
abbrev pub leads_up : Node → List Node → Bool
leads_up n [] = true
leads_up n (x ∷ xs) = is_child n x && leads_up x xs

-- from this node on, each node is a child of the one before it
abbrev pub leads_down : Node → List Node → Bool
leads_down n [] = true
leads_down n (x ∷ xs) = is_child x n && leads_down x xs

-- there is a command, and its new value does not meet the demand
abbrev pub denies : (Value → Bool) → Option Change → Bool
denies demand None = false
denies demand (Some d) = not (demand d.new)

-- the set has no command at the nodes before the last, and the tree does not meet the demand there; the command at the
-- last denies it
abbrev pub is_denied : (Value → Bool) → Holding → List Change → List Node → Bool
is_denied demand t ms [] = false
is_denied demand t ms (x ∷ []) = denies demand (command_at ms x)
is_denied demand t ms (x ∷ (y ∷ xs)) =
    is_none (command_at ms x) && (not (demand (t x)) && is_denied demand t ms (y ∷ xs))

-- the command leaves its node non-empty, so each node above must be a directory, and one is denied
abbrev pub is_upward_chain : Holding → List Change → Change → List Node → Bool
is_upward_chain t ms c via = not (is_empty c.new) && (leads_up c.node via && is_denied is_dir t ms via)

-- the command leaves its node other than a directory, so each node below must be Empty, and one is denied
abbrev pub is_downward_chain : Holding → List Change → Change → List Node → Bool
is_downward_chain t ms c via = not (is_dir c.new) && (leads_down c.node via && is_denied is_empty t ms via)

-- a chain for a command outside a set: the empty list where the set has a command at its node, else one that leads up
-- or down
abbrev pub is_chain : Holding → List Change → Change → List Node → Bool
is_chain t ms c [] = is_some (command_at ms c.node)
is_chain t ms c (x ∷ xs) =
    is_none (command_at ms c.node) && (is_upward_chain t ms c (x ∷ xs) || is_downward_chain t ms c (x ∷ xs))

-- ---- the first chain

-- the last node of a list that leads from a node
abbrev pub last_from : Node → List Node → Node
last_from n [] = n
last_from n (x ∷ xs) = last_from x xs

-- the empty chain and one that leads up go first; of two that lead down, the one whose last node comes first in path
-- order
abbrev pub goes_first : Node → List Node → List Node → Bool
goes_first n via other =
    leads_up n via || (not (leads_up n other) && comes_before (last_from n via) (last_from n other))

-- the chain that goes before every other
pub record IsFirstChain (t : Holding) (ms : List Change) (c : Change) (via : List Node) : Type 0 where
  pub chain : is_chain t ms c via ≡ true
  pub first : (other : List Node) → is_chain t ms c other ≡ true → (via ≡ other) ⊎ (goes_first c.node via other ≡ true)

-- ---- what is left out

-- those of some commands that the set has not
abbrev pub without : List Change → List Change → List Change
without ms cs = filter (λ c. not (is_in ms c)) cs

-- the drawn commands that a set leaves out, by their logs and then in the admissible order
abbrev pub left_out : List (List Change) → List Change → List Change
left_out logs ms = without ms (drawn_commands logs)

-- the least common tree holds the node non-empty, or a log touches it
abbrev pub is_node : List (List Change) → Node → Bool
is_node logs p = not (is_empty (least_common_tree logs p)) || list_any (λ log. names log p) logs
