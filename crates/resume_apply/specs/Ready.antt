-- Trees that are ready for a set, their target, and the work that is left.
use Rattle.std.specs.Prelude.{◌≡◌, ◌⊎◌, ℕ, ◌+◌, Bool, true, false, not, ◌&&◌, ◌||◌, List, [], ◌∷◌, Some, None, if◌then◌else◌}
use Rattle.sync_path.specs.Paths.{Node}
use Rattle.sync_command.specs.declared.values.Value.{Value}
use Rattle.sync_command.specs.declared.values.Value.TheVariants.{Empty}
use Rattle.sync_command.specs.Values.{is_empty, is_dir, same_value}
use Rattle.sync_command.specs.Changes.{Change}
use Rattle.sync_command.specs.Trees.{Holding, IsTree, command_at, after}

-- the old and the new value are both not empty, and of different kinds
abbrev pub changes_kind : Change → Bool
changes_kind c = not (is_empty c.old) && (not (is_empty c.new) && (if is_dir c.old then not (is_dir c.new) else is_dir c.new))

-- a command can begin or go on, or is done, where its node holds this value: the old one, the new one, or Empty where
-- the kind changes
abbrev pub is_ready_value : Change → Value → Bool
is_ready_value c v = same_value v c.old || (same_value v c.new || (changes_kind c && is_empty v))

-- A tree is ready for a set where each node of the set holds such a value, and where it is a tree with all the new
-- values. That tree is the target, `after` the set.
pub record IsReady (t : Holding) (cs : List Change) : Type 0 where
  pub values : (p : Node) (c : Change) → command_at cs p ≡ Some c → is_ready_value c (t p) ≡ true
  pub tree : IsTree (after cs t)

-- ---- the work that is left

abbrev pub work_units : Bool → Bool → Bool → ℕ
work_units done untouched kind = if done then 0 else if untouched && kind then 2 else 1

-- 0 where the new value is held; 2 where the old one is held and the kind changes; 1 otherwise
abbrev pub work_at : Change → Value → ℕ
work_at c v = work_units (same_value v c.new) (same_value v c.old) (changes_kind c)

-- added up over the nodes of the set
abbrev pub work : List Change → Holding → ℕ
work [] t = 0
work (c ∷ cs) t = work_at c (t c.node) + work cs t

-- ---- steps

-- one step of a command: from the old value to the new one where the kind stays, from Empty to the new value, or from
-- the old value to Empty where the kind changes
abbrev pub IsStep : Change → Value → Value → Type 0
IsStep c v w =
    ((v ≡ c.old) × (w ≡ c.new) × (changes_kind c ≡ false)) ⊎
    (((v ≡ Empty) × (w ≡ c.new)) ⊎
    ((v ≡ c.old) × (w ≡ Empty) × (changes_kind c ≡ true)))

-- A tree n on its way from m to the target: it is ready with the same target, and holds outside the set's nodes what m
-- holds.
pub record IsOnItsWay (cs : List Change) (m n : Holding) : Type 0 where
  pub ready : IsReady n cs
  pub target : after cs n ≡ after cs m
  pub elsewhere : (p : Node) → command_at cs p ≡ None → n p ≡ m p
