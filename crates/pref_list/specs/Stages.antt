-- Which commands of a net set a rule with a path names: their places, in the admissible order.
use Rattle.std.specs.Prelude.{◌≡◌, ◌<◌, ◌≤◌, ℕ, Bool, true, false, ◌||◌, List, length, slice_get, Some, if◌then◌else◌}
use Rattle.sync_path.specs.Paths.{Node, same_path, comes_before, is_under}
use Rattle.sync_command.specs.Changes.{Change, is_down}

-- the node is the path or, where the rule is wide, under it
abbrev pub is_within : Node → Bool → Node → Bool
is_within p true n = same_path p n || is_under n p
is_within p false n = same_path p n

-- how far in the admissible order: the down commands after the path, those within, those before it, and then the
-- other commands before the path, those within, and those after it
abbrev pub stage_of : Node → Bool → Change → ℕ
stage_of p wide c =
    if is_down c then (if is_within p wide c.node then 1 else if comes_before p c.node then 0 else 2)
    else (if is_within p wide c.node then 4 else if comes_before c.node p then 3 else 5)

-- the stages do not fall
abbrev pub AreStaged : Node → Bool → List Change → Type 0
AreStaged p wide cs = (i j : ℕ) (c d : Change) → i < j → slice_get cs i ≡ Some c → slice_get cs j ≡ Some d → stage_of p wide c ≤ stage_of p wide d

-- the commands before the place are of earlier stages, and the others are not
pub record IsBound (p : Node) (wide : Bool) (cs : List Change) (goal place : ℕ) : Type 0 where
  pub low : place ≤ length cs
  pub before : (i : ℕ) (c : Change) → i < place → slice_get cs i ≡ Some c → stage_of p wide c < goal
  pub after : (i : ℕ) (c : Change) → place ≤ i → slice_get cs i ≡ Some c → goal ≤ stage_of p wide c
