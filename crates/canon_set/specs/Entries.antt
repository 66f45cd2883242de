-- The entries of nodes in the table of a sum, and the counts of children that they keep.
use Rattle.std.specs.Prelude.{◌≡◌, ℕ, ◌+◌, ◌-◌, ◌≤◌, Bool, true, false, ◌&&◌, ◌||◌, [], ◌∷◌, Option, Some, None, is_some, is_none, if◌then◌else◌, cond}
use Rattle.std.specs.Ordering.{is_eq}
use Rattle.sync_path.specs.Paths.{Node, parent, path_cmp, same_path, is_under}
use Rattle.sync_path.specs.Children.{IsChildCount}
use Rattle.canon_set.specs.declared.table.Entry.{Entry}

-- the place and the count of children that an entry has
abbrev pub place_in : Option Entry → Option ℕ
place_in None = None
place_in (Some s) = s.place

abbrev pub children_in : Option Entry → ℕ
children_in None = 0
children_in (Some s) = s.children

-- ---- counts

-- what is above a node of the table is in the table, what is full too, and each entry counts the full children
pub record IsCounted (full : Node → Bool) (entry : Node → Option Entry) : Type 0 where
  pub closed : (q p : Node) → parent p ≡ Some q → is_some (entry p) ≡ true → is_some (entry q) ≡ true
  pub known : (p : Node) → full p ≡ true → is_some (entry p) ≡ true
  pub tally : (q : Node) → IsChildCount full q (children_in (entry q))

-- ---- how the table changes

-- what is above a node of the table is in the table
abbrev pub IsClosed : (Node → Option Entry) → Type 0
IsClosed entry = (q p : Node) → parent p ≡ Some q → is_some (entry p) ≡ true → is_some (entry q) ≡ true

-- children are added to the count of a node of the table, and others taken off
pub record Counts (old new : Node → Option Entry) (path : Node) (added taken : ℕ) : Type 0 where
  pub entry : Entry
  pub was : old path ≡ Some entry
  pub now : (p : Node) → new p ≡ cond (is_eq (path_cmp path p)) (Some (record { place = entry.place; children = entry.children + added - taken })) (old p)

-- the path, or one above it
abbrev pub is_on_way : Node → Node → Bool
is_on_way path p = same_path p path || is_under path p

-- the full nodes, where one becomes full or not, and what is above it and not in the table is full then
abbrev pub filled : (Node → Bool) → (Node → Option Entry) → Node → Bool → Node → Bool
filled full entry path here p = if same_path p path then here else (full p || (is_none (entry p) && is_under path p))

-- those above a node come into the table, which does not know the node
pub record Raises (old mid : Node → Option Entry) (path : Node) (here : Bool) : Type 0 where
  pub places : (p : Node) → place_in (mid p) ≡ place_in (old p)
  pub known : (p : Node) → is_some (mid p) ≡ (is_some (old p) || is_under path p)
  pub few : (p : Node) → children_in (mid p) ≤ children_in (old p) + 1
  pub counts : (full : Node → Bool) → IsCounted full old → (q : Node) → same_path q path ≡ false → IsChildCount (filled full old path here) q (children_in (mid q))

-- a node comes into the table with those above it
pub record Enters (old new : Node → Option Entry) (path : Node) (entry : Entry) (here : Bool) : Type 0 where
  pub at : new path ≡ Some entry
  pub places : (p : Node) → same_path p path ≡ false → place_in (new p) ≡ place_in (old p)
  pub known : (p : Node) → is_some (new p) ≡ (is_some (old p) || is_on_way path p)
  pub few : (p : Node) → same_path p path ≡ false → children_in (new p) ≤ children_in (old p) + 1
  pub counts : (full : Node → Bool) → IsCounted full old → (q : Node) → same_path q path ≡ false → IsChildCount (filled full old path here) q (children_in (new q))

-- a node of the table that was full or not now is or is not
pub record Recounts (old new : Node → Option Entry) (path : Node) (was here : Bool) : Type 0 where
  pub places : (p : Node) → place_in (new p) ≡ place_in (old p)
  pub known : (p : Node) → is_some (new p) ≡ is_some (old p)
  pub few : (p : Node) → children_in (new p) ≤ children_in (old p) + 1
  pub counts : (full : Node → Bool) → IsCounted full old → full path ≡ was → (q : Node) → IsChildCount (filled full old path here) q (children_in (new q))

-- the entry with a place
abbrev pub at_place : ℕ → Option Entry → Option Entry
at_place place None = None
at_place place (Some s) = Some (record { place = Some place; children = s.children })

-- an untouched node of the table that was full gets a place, and now is full or not
pub record Lifts (old new : Node → Option Entry) (path : Node) (place : ℕ) (here : Bool) : Type 0 where
  pub mid : Node → Option Entry
  pub recounts : Recounts old mid path true here
  pub at : (p : Node) → new p ≡ (if same_path p path then at_place place (mid p) else mid p)
