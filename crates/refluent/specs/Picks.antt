-- Which net commands name a node, and where they are in the net sets.
use Rattle.std.specs.Prelude.{◌≡◌, ◌+◌, ℕ, List, [], ◌∷◌, is_some, Option, Some, None, if◌then◌else◌}
use Rattle.std.specs.List.{position_or_len}
use Rattle.sync_path.specs.Paths.{Node, same_path}
use Rattle.sync_command.specs.declared.commands.Row.{Row}
use Rattle.sync_command.specs.Changes.{Change}
use Rattle.sync_command.specs.Trees.{command_at}
use Rattle.refluent.specs.declared.joint.Pick.{Pick}
use Rattle.refluent.specs.Joints.{path_at}

-- the place of the command of a set at a node
abbrev pub place_in : List Change → Node → ℕ
place_in set p = position_or_len (λ c. same_path p c.node) set

-- the net commands at a node of the logs from the one of this number on
abbrev pub picks_from : ℕ → List (List Change) → Node → List Pick
picks_from log [] p = []
picks_from log (set ∷ sets) p =
    if is_some (command_at set p) then record { log = log; place = place_in set p } ∷ picks_from (log + 1) sets p
    else picks_from (log + 1) sets p

-- the net commands that name a node, by log: each by the number of its log, counted from 1, and its place in that
-- log's net set
abbrev pub net_commands : List (List Change) → Node → List Pick
net_commands sets p = picks_from 1 sets p

-- the place of a node's parent among the nodes; a root has none
abbrev pub IsParentPlace : List Row → Option Node → Option ℕ → Type 0
IsParentPlace rows None found = found ≡ None
IsParentPlace rows (Some q) found = (i : ℕ) × (found ≡ Some i) × (path_at rows i ≡ Some q)
