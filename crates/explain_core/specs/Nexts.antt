-- The next node, in path order, at which a set leaves something.
use Rattle.std.specs.Prelude.{◌≡◌, ◌≤◌, ℕ, true, List, length, slice_get, Option, Some, None}
use Rattle.sync_path.specs.Paths.{Node}
use Rattle.sync_command.specs.declared.commands.Row.{Row}
use Rattle.sync_command.specs.Values.{is_empty}
use Rattle.sync_command.specs.Changes.{Change}
use Rattle.sync_command.specs.Trees.{command_at}
use Rattle.refluent.specs.Families.{IsFirstPlace}
use Rattle.refluent.specs.Joints.{path_at}
use Rattle.explain_core.specs.Chains.{denies}

-- a command of the set leaves something at the node of the place
abbrev pub IsLeftAt : List Row → List Change → ℕ → Type 0
IsLeftAt nodes ms place = (p : Node) × (path_at nodes place ≡ Some p) × (denies is_empty (command_at ms p) ≡ true)

abbrev pub next_or : Option (Option ℕ) → Option ℕ
next_or None = None
next_or (Some next) = next

-- what a table has for a place; nothing past its end
abbrev pub next_at : List (Option ℕ) → ℕ → Option ℕ
next_at nexts place = next_or (slice_get nexts place)

-- the table has for each place, from the given one on, the first such place that is not before it
pub record AreNexts (nodes : List Row) (ms : List Change) (from : ℕ) (nexts : List (Option ℕ)) : Type 0 where
  pub many : length nexts ≡ length nodes
  pub each : (i : ℕ) → from ≤ i → IsFirstPlace (IsLeftAt nodes ms) i (length nodes) (next_at nexts i)
