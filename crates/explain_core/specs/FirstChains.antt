-- The first chain of a command, found by the nodes of a joint.
use Rattle.std.specs.Prelude.{ℕ, zero, suc, List, [], ◌∷◌, ◌++◌, length, drop, ◌&&◌, Bool, Option, Some, None, is_some, find, if◌then◌else◌}
use Rattle.std.specs.Option.{option_map}
use Rattle.sync_path.specs.Paths.{Node, parent, is_under}
use Rattle.sync_command.specs.declared.commands.Row.{Row}
use Rattle.sync_command.specs.Values.{is_empty}
use Rattle.sync_command.specs.Changes.{Change}
use Rattle.sync_command.specs.Trees.{Holding, command_at}
use Rattle.sync_command.specs.Maps.{value_or_empty}
use Rattle.refluent.specs.Joints.{Joined, value_in}
use Rattle.explain_core.specs.Chains.{denies, is_upward_chain}

-- the least common tree of the logs that a joint stands for
abbrev pub first_tree : Joined → Holding
first_tree j p = value_or_empty (value_in j.nodes p)

-- ---- up

-- a node, if there is one, and those above it, the lowest first; so many at most
abbrev pub ancestors_from : ℕ → Option Node → List Node
ancestors_from zero up = []
ancestors_from (suc k) None = []
ancestors_from (suc k) (Some q) = q ∷ ancestors_from k (parent q)

-- the nodes above a node, its parent first
abbrev pub ancestors : Node → List Node
ancestors n = ancestors_from (length n) (parent n)

-- the first of some nodes, up to one at which the set has a command
abbrev pub to_command : List Change → List Node → List Node
to_command ms [] = []
to_command ms (x ∷ xs) = if is_some (command_at ms x) then x ∷ [] else x ∷ to_command ms xs

-- the way up from a node to the nearest one above it at which the set has a command
abbrev pub way_up : List Change → Node → List Node
way_up ms n = to_command ms (ancestors n)

-- ---- down

-- the way down from a node by these names
abbrev pub way_down : Node → List (List ℕ) → List Node
way_down n [] = []
way_down n (name ∷ names) = (n ++ name ∷ []) ∷ way_down (n ++ name ∷ []) names

-- the way down from a node to one under it, if there is one
abbrev pub way_to : Node → Option Node → List Node
way_to n None = []
way_to n (Some low) = way_down n (drop (length n) low)

-- the node is under the other, and a command of the set leaves something there
abbrev pub is_left_under : List Change → Node → Node → Bool
is_left_under ms n p = is_under p n && denies is_empty (command_at ms p)

-- the first such node, in path order
abbrev pub first_left_under : List Row → List Change → Node → Option Node
first_left_under nodes ms n = option_map (λ row. row.path) (find (λ row. is_left_under ms n row.path) nodes)

-- ---- both

-- none where the set has a command at the node itself; else the way up, where it is a chain; else the way down to the
-- first node under it at which the set leaves something
abbrev pub first_chain : Joined → List Change → Change → List Node
first_chain j ms c =
    if is_some (command_at ms c.node) then []
    else if is_upward_chain (first_tree j) ms c (way_up ms c.node) then way_up ms c.node
    else way_to c.node (first_left_under j.nodes ms c.node)
