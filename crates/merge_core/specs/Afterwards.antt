-- The nodes of a joint after a set.
use Rattle.std.specs.Prelude.{◌≡◌, ◌<◌, ◌&&◌, ◌||◌, ℕ, Bool, true, false, not, List, length, slice_get, slice_set, Option, Some, None, is_some}
use Rattle.sync_path.specs.Paths.{Node}
use Rattle.sync_command.specs.declared.values.Value.{Value}
use Rattle.sync_command.specs.declared.commands.Row.{Row}
use Rattle.sync_command.specs.Values.{is_empty, is_dir}
use Rattle.sync_command.specs.Changes.{Change}
use Rattle.sync_command.specs.Trees.{command_at, new_or}
use Rattle.refluent.specs.Sets.{is_in}
use Rattle.refluent.specs.Drawn.{in_turn}
use Rattle.refluent.specs.Joints.{path_at, value_at}
use Rattle.refluent.specs.declared.joint.Pick.{Pick}
use Rattle.pref_list.specs.Ranking.{set_of}
use Rattle.pref_list.specs.Numbers.{IsNodeAt}
use Rattle.pref_list.specs.Picks.{log_of}
use Rattle.merge_core.specs.Verdicts.{IsFirstCommand}
use Rattle.merge_core.specs.declared.checking.After.{After}

-- the least log that has the command, if one has it
abbrev pub IsLeastLog : List (List Change) → Change → Option ℕ → Type 0
IsLeastLog sets c None = is_in (in_turn sets) c ≡ false
IsLeastLog sets c (Some log) = (is_in (in_turn sets) c ≡ true) × (log ≡ log_of sets c)

-- what a node is after the set, by what it holds first
pub record IsAfter (set : List Change) (p : Node) (first : Value) (seen : After) : Type 0 where
  pub named : seen.named ≡ is_some (command_at set p)
  pub empty : seen.empty ≡ is_empty (new_or (command_at set p) first)
  pub dir : seen.dir ≡ is_dir (new_or (command_at set p) first)

-- the same of each node
pub record AreAfter (nodes : List Row) (set : List Change) (seen : List After) : Type 0 where
  pub many : length seen ≡ length nodes
  pub each : (i : ℕ) (a : After) (p : Node) (v : Value) → slice_get seen i ≡ Some a → path_at nodes i ≡ Some p → value_at nodes i ≡ Some v → IsAfter set p v a

abbrev pub is_dir_in : Option After → Bool
is_dir_in None = false
is_dir_in (Some a) = a.dir

abbrev pub is_full_in : Option After → Bool
is_full_in None = false
is_full_in (Some a) = not a.empty

-- there is a parent, which is no directory
abbrev pub is_bare : List After → Option (Option ℕ) → Bool
is_bare seen None = false
is_bare seen (Some None) = false
is_bare seen (Some (Some k)) = not (is_dir_in (slice_get seen k))

-- the node is not empty, and its parent is no directory
abbrev pub is_misfit : List (Option ℕ) → List After → ℕ → Bool
is_misfit parents seen i = is_full_in (slice_get seen i) && is_bare seen (slice_get parents i)

-- one of the nodes before a place is a child of the node that is not empty
abbrev pub HasFullChild : List (Option ℕ) → List After → ℕ → ℕ → Type 0
HasFullChild parents seen end k = (i : ℕ) × (i < end) × (slice_get parents i ≡ Some (Some k)) × (is_full_in (slice_get seen i) ≡ true)

-- the flag of each node says whether one of the nodes before a place is such a child of it
pub record AreFilled (parents : List (Option ℕ)) (seen : List After) (end : ℕ) (filled : List Bool) : Type 0 where
  pub many : length filled ≡ length parents
  pub yes : (k : ℕ) → slice_get filled k ≡ Some true → HasFullChild parents seen end k
  pub no : (k : ℕ) → slice_get filled k ≡ Some false → HasFullChild parents seen end k → ⊥

-- the flags with that of the parent set, where there is a parent
abbrev pub marked : List Bool → Option (Option ℕ) → List Bool
marked filled None = filled
marked filled (Some None) = filled
marked filled (Some (Some k)) = slice_set filled k true

-- the set names the node
abbrev pub is_named_in : Option After → Bool
is_named_in None = true
is_named_in (Some a) = a.named

abbrev pub flag_of : Option Bool → Bool
flag_of None = false
flag_of (Some b) = b

-- a command can be added at the place: the set does not name the node; the command empties it, or the node has no
-- parent that is no directory; and the command makes it a directory, or no child is left
abbrev pub can_add : List (Option ℕ) → List After → List Bool → ℕ → Change → Bool
can_add parents seen filled place c =
    not (is_named_in (slice_get seen place)) && ((is_empty c.new || not (is_bare seen (slice_get parents place)))
    && (is_dir c.new || not (flag_of (slice_get filled place))))

-- the command can be added at the place of its node
abbrev pub IsAddable : List Row → List (Option ℕ) → List After → List Bool → Change → Type 0
IsAddable nodes parents seen filled c = (place : ℕ) × IsNodeAt nodes place c.node × (can_add parents seen filled place c ≡ true)

-- a command that passes stands at the place
abbrev pub IsPlaceOf : List Change → (Change → Type 0) → ℕ → Type 0
IsPlaceOf cs passes i = (c : Change) × (slice_get cs i ≡ Some c) × passes c

-- the pick is of the first net command that passes, or none passes
abbrev pub IsFirstPick : List (List Change) → (Change → Type 0) → Option Pick → Type 0
IsFirstPick sets passes None = (l i : ℕ) (c : Change) → slice_get (set_of sets l) i ≡ Some c → passes c → ⊥
IsFirstPick sets passes (Some pick) = (c : Change) × IsFirstCommand sets passes pick.log pick.place c
