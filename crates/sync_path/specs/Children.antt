-- The children of a node, and how many of them pass a test.
use Rattle.std.specs.Prelude.{◌≡◌, ℕ, Bool, true, false, not, ◌&&◌, ◌||◌, List, [], ◌∷◌, length, Option, None, Some}
use Rattle.sync_path.specs.Paths.{Node, parent, same_path}

-- q is this parent
abbrev pub is_parent : Option Node → Node → Bool
is_parent None q = false
is_parent (Some r) q = same_path r q

-- p is a child of q
abbrev pub is_child : Node → Node → Bool
is_child p q = is_parent (parent p) q

-- a list of nodes has this one
abbrev pub has : List Node → Node → Bool
has [] p = false
has (k ∷ ks) p = same_path p k || has ks p

-- each node stands once in the list
abbrev pub is_once : List Node → Bool
is_once [] = true
is_once (k ∷ ks) = not (has ks k) && is_once ks

-- so many children of q are full
pub record IsChildCount (full : Node → Bool) (q : Node) (count : ℕ) : Type 0 where
  pub children : List Node
  pub each : (p : Node) → has children p ≡ (is_child p q && full p)
  pub once : is_once children ≡ true
  pub is : count ≡ length children
