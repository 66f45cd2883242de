-- The children of the nodes of a joint, by their places.
use Rattle.std.specs.Prelude.{◌≡◌, ◌<◌, ◌≤◌, ◌+◌, ℕ, List, length, slice_get, Option, Some, None}
use Rattle.sync_path.specs.Paths.{Node, parent}
use Rattle.sync_command.specs.declared.commands.Row.{Row}
use Rattle.refluent.specs.Joints.{path_at}
use Rattle.refluent.specs.declared.joint.Link.{Link}

-- no place from the one on, before the other, passes
abbrev pub NonePasses : (ℕ → Type 0) → ℕ → ℕ → Type 0
NonePasses P from to = (j : ℕ) → from ≤ j → j < to → P j → ⊥

-- the first place that passes, from the one on, before the other
abbrev pub IsFirstPlace : (ℕ → Type 0) → ℕ → ℕ → Option ℕ → Type 0
IsFirstPlace P from to None = NonePasses P from to
IsFirstPlace P from to (Some i) = (from ≤ i) × (i < to) × P i × NonePasses P from i

-- the node at the place has this parent, or is a root
abbrev pub HasParent : List Row → Option Node → ℕ → Type 0
HasParent rows up place = (p : Node) × (path_at rows place ≡ Some p) × (parent p ≡ up)

-- the first place, from one on, of a node with this parent
abbrev pub IsFirstChild : List Row → Option Node → ℕ → Option ℕ → Type 0
IsFirstChild rows up from found = IsFirstPlace (HasParent rows up) from (length rows) found

-- ---- by links

abbrev pub place_or : Option ℕ → ℕ → ℕ
place_or None n = n
place_or (Some i) n = i

abbrev pub up_of : Option Link → ℕ → ℕ
up_of None n = n
up_of (Some link) n = place_or link.parent n

-- the place of the parent of the node at a place, or the number of nodes where it is a root
abbrev pub up_at : List Link → ℕ → ℕ
up_at links place = up_of (slice_get links place) (length links)

-- the first children and the next siblings among the places from the given one on
pub record AreFamilies (links : List Link) (from : ℕ) (children siblings : List (Option ℕ)) : Type 0 where
  pub many : length children ≡ length links + 1
  pub each : length siblings ≡ length links
  pub first : (up : ℕ) (o : Option ℕ) → slice_get children up ≡ Some o →
      IsFirstPlace (λ j. up_at links j ≡ up) from (length links) o
  pub next : (i : ℕ) (o : Option ℕ) → from ≤ i → slice_get siblings i ≡ Some o →
      IsFirstPlace (λ j. up_at links j ≡ up_at links i) (i + 1) (length links) o
