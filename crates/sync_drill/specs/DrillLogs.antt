-- The logs of a drill.
use Rattle.std.specs.Prelude.{◌≡◌, ◌⊎◌, ℕ, zero, suc, true, ◌==◌, List, [], ◌∷◌, if◌then◌else◌}
use Rattle.sync_path.specs.Paths.{Node}
use Rattle.sync_command.specs.declared.values.Value.{Value}
use Rattle.sync_command.specs.declared.values.Value.TheVariants.{Empty, Dir, File}
use Rattle.sync_command.specs.Changes.{Change, is_change}
use Rattle.sync_command.specs.Trees.{Holding, IsApplicable, put}
use Rattle.sync_drill.specs.declared.draws.StepDraws.{StepDraws}
use Rattle.sync_drill.specs.Draws.{state_after, state_after_steps, step_draws}
use Rattle.sync_drill.specs.BaseTrees.{child_path, grandchild_path, root_path}

-- the node that is drawn: a root, a child of it, or a child of that
abbrev pub drawn_path : StepDraws → Node
drawn_path d =
    if d.depth == 0 then root_path d.root
    else (if d.depth == 1 then child_path d.root d.child else grandchild_path d.root d.child d.grandchild)

-- the value that is drawn: nothing, a directory, or a file with the byte `1` or `2`
abbrev pub wanted_value : ℕ → Value
wanted_value value =
    if value == 0 then Empty else (if value == 1 then Dir [] else (if value == 2 then File (49 ∷ []) else File (50 ∷ [])))

-- from the value that the tree holds at the drawn node to the one that is drawn
abbrev pub drawn_command : Holding → StepDraws → Change
drawn_command t d = record { node = drawn_path d; old = t (drawn_path d); new = wanted_value d.value }

-- the two values differ, and the tree takes the command
abbrev pub IsDone : Holding → Change → Type 0
IsDone t c = (is_change c ≡ true) × IsApplicable t c

-- The log that so many steps from a tree and a state make: the first step's command where it is done, and what the steps
-- after it make of the tree's result; where it is not, what those make of the tree.
abbrev pub IsLog : Holding → ℕ → ℕ → List Change → Type 0
IsLog t x zero log = log ≡ []
IsLog t x (suc steps) log =
    let c = drawn_command t (step_draws x) in
    (IsDone t c × ((rest : List Change) × (log ≡ c ∷ rest) × IsLog (put t c.node c.new) (state_after 5 x) steps rest))
    ⊎ ((IsDone t c → ⊥) × IsLog t (state_after 5 x) steps log)

-- so many logs, each from the tree, and from the state that the one before it left
abbrev pub AreLogs : Holding → ℕ → ℕ → ℕ → List (List Change) → Type 0
AreLogs t x steps zero logs = logs ≡ []
AreLogs t x steps (suc count) logs =
    (log : List Change) × (rest : List (List Change)) × (logs ≡ log ∷ rest) × IsLog t x steps log
    × AreLogs t (state_after_steps steps x) steps count rest
