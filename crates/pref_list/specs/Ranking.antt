-- The ranking of the drawn commands under preference rules.
use Rattle.std.specs.Prelude.{ℕ, zero, suc, Bool, ◌||◌, List, [], ◌∷◌, ◌++◌}
use Rattle.std.specs.List.{filter}
use Rattle.sync_path.specs.Paths.{Node, same_path, is_under}
use Rattle.sync_command.specs.Changes.{Change}
use Rattle.refluent.specs.Drawn.{in_turn}
use Rattle.refluent.specs.Joints.{net_sets}
use Rattle.refluent.specs.Sets.{without_repeats}
use Rattle.pref_list.specs.declared.rules.Rule.{Rule}
use Rattle.pref_list.specs.declared.rules.Rule.TheVariants.{At, Under, All}

-- the set of this number, counted from 0; an empty one past the end
abbrev pub set_from : List (List Change) → ℕ → List Change
set_from [] k = []
set_from (set ∷ sets) zero = set
set_from (set ∷ sets) (suc k) = set_from sets k

-- the set of the log of this number; no log has the number 0
abbrev pub set_of : List (List Change) → ℕ → List Change
set_of sets zero = []
set_of sets (suc k) = set_from sets k

abbrev pub is_at : Node → Change → Bool
is_at p c = same_path p c.node

abbrev pub is_at_or_under : Node → Change → Bool
is_at_or_under p c = same_path p c.node || is_under c.node p

-- the commands that a rule names, in the admissible order
abbrev pub expansion : List (List Change) → Rule → List Change
expansion sets (At k p) = filter (is_at p) (set_of sets k)
expansion sets (Under k p) = filter (is_at_or_under p) (set_of sets k)
expansion sets (All k) = set_of sets k

-- the rules one after another
abbrev pub expansions : List (List Change) → List Rule → List Change
expansions sets [] = []
expansions sets (rule ∷ rules) = expansion sets rule ++ expansions sets rules

-- the rules, then the sets of log 1, log 2 and so on whole, and each command at its first place only
abbrev pub ranked : List (List Change) → List Rule → List Change
ranked sets rules = without_repeats (expansions sets rules ++ in_turn sets)

-- the ranking of the drawn commands of logs
abbrev pub ranking : List (List Change) → List Rule → List Change
ranking logs rules = ranked (net_sets logs) rules
