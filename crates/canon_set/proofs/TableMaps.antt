-- What the two maps of a table say of a node, and how that changes with a write.
use Rattle.std.proofs.Common.{◌≡◌, ◌+◌, ◌++◌, ℕ, zero, suc, nat_lt, length, map, get_or, slice_get, slice_set, position, Bool, true, false, not, List, [], ◌∷◌, Option, Some, None, cond, refl, sym, ap, subst, ◌∙◌, arith}
use Rattle.std.specs.Prelude.{if◌then◌else◌}
use Rattle.std.specs.Option.{option_map}
use Rattle.std.specs.List.{position_or_len}
use Rattle.std.specs.Map.{keys_of}
use Rattle.std.specs.Ordering.{is_eq}
use Rattle.std.specs.HashMap.{get, IsUnique}
use Rattle.std.proofs.lemmas.Option.{slice_get-map, get_or_from_slice_get}
use Rattle.std.proofs.lemmas.Map.Entries.{hash_map_get_place}
use Rattle.std.specs.Map.{lookup}
use Rattle.indexmap.specs.IndexMap.{set_value_at, with_value_at, insert_entry}
use Rattle.indexmap.proofs.CallerLemmas.{updates-with_value_at, insert_entry-new}
use Rattle.sync_path.specs.Paths.{Node, path_cmp, same_path}
use Rattle.sync_command.specs.declared.values.Value.{Value}
use Rattle.sync_path.specs.Order.{path_eq, path_eq_equiv}
use Rattle.sync_path.proofs.CallerLemmas.{same_path_is}
use Rattle.canon_set.specs.declared.touches.Touch.{Touch}
use Rattle.canon_set.specs.declared.table.Touched.{Touched}
use Rattle.canon_set.specs.declared.table.Table.{Table}
use Rattle.canon_set.specs.Tables.{place_of, touch_from, touches_in, children_of, entry_from, entry_at}
use Rattle.canon_set.specs.Touches.{renewed}
use Rattle.canon_set.specs.Tables.{Renews}
use Rattle.canon_set.proofs.Entering.{flip_path}
use Rattle.canon_set.proofs.Growing.{place_set, place_push}

some_is : {A : Type 0} {x y : A} → Some x ≡ Some y → x ≡ y
some_is e = cc

pub eq_same : (p q : Node) → path_eq p q ≡ same_path p q
unfolding same_path
eq_same p q = refl

is_same : (p q : Node) → is_eq (path_cmp p q) ≡ true → p ≡ q
is_same p q e = same_path_is p q (sym (eq_same p q) ∙ e)

-- ---- places

position_cons : {X : Type 0} (f : X → Bool) (x : X) (xs : List X) → position f (x ∷ xs) ≡ (if f x then Some 0 else option_map (λ k. k + 1) (position f xs))
position_cons f x xs = go (f x) (position_or_len f xs) (length xs)
  where
    go : (b : Bool) (n l : ℕ) → cond (nat_lt (cond (not b) (1 + n) 0) (suc l)) (Some (cond (not b) (1 + n) 0)) None ≡ (if b then Some 0 else option_map (λ k. k + 1) (cond (nat_lt n l) (Some n) None))
    go b n l = grind arith

-- a node's place is its index in the map of touched nodes
pub place_index : (es : List (Node × Touched)) (p : Node) → place_of (map touch_from es) p ≡ position (path_eq p) (keys_of es)
place_index [] p = refl
place_index (e ∷ es) p = ap (λ o. if same_path p e.0 then Some 0 else option_map (λ k. k + 1) o) (place_index es p) ∙
    ap (λ b. if b then Some 0 else option_map (λ k. k + 1) (position (path_eq p) (keys_of es))) (sym (eq_same p e.0)) ∙ sym (position_cons (path_eq p) e.0 (keys_of es))

-- the touch at a node's place is the node's
place_path : (ts : List Touch) (p : Node) (i : ℕ) (t : Touch) → place_of ts p ≡ Some i → slice_get ts i ≡ Some t → p ≡ t.path
place_path [] p i t e is = cc (e)
place_path (x ∷ xs) p i t e is = go (same_path p x.path) (same_path_is p x.path) (place_of xs p) (λ j. place_path xs p j t) i e is
  where
    go : (b : Bool) → (b ≡ true → p ≡ x.path) → (o : Option ℕ) → ((j : ℕ) → o ≡ Some j → slice_get xs j ≡ Some t → p ≡ t.path) → (i : ℕ) → (if b then Some 0 else option_map (λ k. k + 1) o) ≡ Some i → slice_get (x ∷ xs) i ≡ Some t → p ≡ t.path
    go true f o ih zero e is = f refl ∙ ap (λ (y : Touch). y.path) (some_is is)
    go true f o ih (suc i) e is = let z : 0 ≡ suc i = some_is e in absurd (omega arith)
    go false f None ih i e is = cc (e)
    go false f (Some k) ih zero e is = let z : k + 1 ≡ 0 = some_is e in absurd (omega arith)
    go false f (Some k) ih (suc i) e is = let z : k + 1 ≡ suc i = some_is e in let y : k ≡ i = omega arith in ih i (ap Some y) is

touch_there : (es : List (Node × Touched)) (i : ℕ) (k : Node) (v : Touched) → slice_get es i ≡ Some (k, v) → slice_get (map touch_from es) i ≡ Some (touch_from (k, v))
touch_there es i k v at = slice_get-map touch_from es i ∙ ap (option_map touch_from) at

-- the key at a node's place is the node
key_is : (es : List (Node × Touched)) (p : Node) (i : ℕ) (k : Node) (v : Touched) → place_of (map touch_from es) p ≡ Some i → slice_get es i ≡ Some (k, v) → p ≡ k
key_is es p i k v e at = place_path (map touch_from es) p i (touch_from (k, v)) e (touch_there es i k v at)

-- ---- the touched nodes after a write by place

pub touches_set : (es : List (Node × Touched)) (i : ℕ) (k : Node) (v w : Touched) → slice_get es i ≡ Some (k, v) → map touch_from (set_value_at es i w) ≡ slice_set (map touch_from es) i (touch_from (k, w))
touches_set [] i k v w at = refl
touches_set (e ∷ es) zero k v w at = ap (λ (x : Node × Touched). touch_from (x.0, w) ∷ map touch_from es) (some_is at)
touches_set (e ∷ es) (suc i) k v w at = ap (λ l. touch_from e ∷ l) (touches_set es i k v w at)

touches_same : (es : List (Node × Touched)) (i : ℕ) (k : Node) (v : Touched) → slice_get es i ≡ Some (k, v) → slice_set (map touch_from es) i (touch_from (k, v)) ≡ map touch_from es
touches_same [] i k v at = refl
touches_same (e ∷ es) zero k v at = ap (λ (x : Node × Touched). touch_from x ∷ map touch_from es) (sym (some_is at))
touches_same (e ∷ es) (suc i) k v at = ap (λ l. touch_from e ∷ l) (touches_same es i k v at)

-- a write that leaves the values leaves the touches
pub touches_kept : (es : List (Node × Touched)) (i : ℕ) (k : Node) (v w : Touched) → slice_get es i ≡ Some (k, v) → touch_from (k, w) ≡ touch_from (k, v) → map touch_from (set_value_at es i w) ≡ map touch_from es
touches_kept es i k v w at same = touches_set es i k v w at ∙ ap (slice_set (map touch_from es) i) same ∙ touches_same es i k v at

pub touch_read : (es : List (Node × Touched)) (i : ℕ) (k : Node) (v : Touched) → slice_get es i ≡ Some (k, v) → touch_from (k, v) ≡ get_or (map touch_from es) i (touch_from (k, v))
touch_read es i k v at = sym (get_or_from_slice_get (map touch_from es) i (touch_from (k, v)) (touch_from (k, v)) (touch_there es i k v at))

-- ---- what is known of a node

module _ (t : Table) (path : Node) where
  pub known_touched : (i : ℕ) (v : Touched) → place_of (touches_in t) path ≡ Some i → get path_eq t.touched path ≡ Some v → entry_at t path ≡ Some (record { place = Some i; children = v.children })
  known_touched i v at is = (λ j. entry_from (at j) (children_of (is j)) (get path_eq t.above path))

  pub known_above : (n : ℕ) → place_of (touches_in t) path ≡ None → get path_eq t.above path ≡ Some n → entry_at t path ≡ Some (record { place = None; children = n })
  known_above n at is = (λ j. entry_from (at j) (children_of (get path_eq t.touched path)) (is j))

  pub known_not : place_of (touches_in t) path ≡ None → get path_eq t.above path ≡ None → entry_at t path ≡ None
  known_not at is = (λ j. entry_from (at j) (children_of (get path_eq t.touched path)) (is j))

  -- a node that is not known has no place
  pub not_touched : entry_at t path ≡ None → place_of (touches_in t) path ≡ None
  not_touched e = go (place_of (touches_in t) path) (get path_eq t.above path) e
    where
      go : (o a : Option ℕ) → entry_from o (children_of (get path_eq t.touched path)) a ≡ None → o ≡ None
      go None a e = refl
      go (Some k) a e = cc (e)

  -- what is read by index
  pub read_touched : (i : ℕ) (k : Node) (v : Touched) → IsUnique path_eq t.touched → place_of (touches_in t) path ≡ Some i → slice_get t.touched.entries i ≡ Some (k, v) → get path_eq t.touched path ≡ Some v
  read_touched i k v unique e at = subst (λ q. get path_eq t.touched q ≡ Some v) (sym (key_is t.touched.entries path i k v e at)) (hash_map_get_place path_eq_equiv t.touched i k v unique at)

-- ---- a write to a touched node

module _ (t : Table) (i : ℕ) (k : Node) (v w : Touched) (unique : IsUnique path_eq t.touched) (at : slice_get t.touched.entries i ≡ Some (k, v)) (same : touch_from (k, w) ≡ touch_from (k, v)) where
  abbrev pub written : Table
  written = record { touched = with_value_at t.touched i w; above = t.above }

  gets : (p : Node) → get path_eq (with_value_at t.touched i w) p ≡ cond (is_eq (path_cmp k p)) (Some w) (get path_eq t.touched p)
  gets = (updates-with_value_at t.touched i w path_eq_equiv unique k v at).0

  -- that leaves its touch and writes its count
  pub count_touched : (path : Node) → place_of (touches_in t) path ≡ Some i → (p : Node) → entry_at written p ≡ cond (is_eq (path_cmp path p)) (Some (record { place = Some i; children = w.children })) (entry_at t p)
  count_touched path e p = (λ j. entry_from (place_of (touches_kept t.touched.entries i k v w at same j) p) (children_of (gets p j)) (get path_eq t.above p)) ∙
      subst (λ q. entry_from (place_of (touches_in t) p) (children_of (cond (is_eq (path_cmp q p)) (Some w) (get path_eq t.touched p))) (get path_eq t.above p) ≡ cond (is_eq (path_cmp path p)) (Some (record { place = Some i; children = w.children })) (entry_at t p)) (key_is t.touched.entries path i k v e at)
      (go (is_eq (path_cmp path p)) (is_same path p) (place_of (touches_in t) p) (λ (h : path ≡ p). ap (place_of (touches_in t)) (sym h) ∙ e))
    where
      go : (b : Bool) → (b ≡ true → path ≡ p) → (o : Option ℕ) → (path ≡ p → o ≡ Some i) → entry_from o (children_of (cond b (Some w) (get path_eq t.touched p))) (get path_eq t.above p) ≡ cond b (Some (record { place = Some i; children = w.children })) (entry_from o (children_of (get path_eq t.touched p)) (get path_eq t.above p))
      go true is o f = ap (λ o. entry_from o w.children (get path_eq t.above p)) (f (is refl))
      go false is o f = refl

-- a write that leaves the count
pub entries_kept : (t : Table) (i : ℕ) (k : Node) (v w : Touched) → IsUnique path_eq t.touched → slice_get t.touched.entries i ≡ Some (k, v) → w.children ≡ v.children → (ts : List Touch) → ((p : Node) → place_of ts p ≡ place_of (touches_in t) p) →
    (p : Node) → entry_from (place_of ts p) (children_of (get path_eq (with_value_at t.touched i w) p)) (get path_eq t.above p) ≡ entry_at t p
entries_kept t i k v w unique at same ts places p = (λ j. entry_from (places p j) (children_of ((updates-with_value_at t.touched i w path_eq_equiv unique k v at).0 p j)) (get path_eq t.above p)) ∙
    ap (λ n. entry_from (place_of (touches_in t) p) n (get path_eq t.above p)) (go (is_eq (path_cmp k p)) (is_same k p))
  where
    go : (b : Bool) → (b ≡ true → k ≡ p) → children_of (cond b (Some w) (get path_eq t.touched p)) ≡ children_of (get path_eq t.touched p)
    go true is = same ∙ ap children_of (sym (hash_map_get_place path_eq_equiv t.touched i k v unique at) ∙ ap (get path_eq t.touched) (is refl))
    go false is = refl

-- ---- a write to the nodes above touched ones

module _ (t : Table) (path : Node) (none : place_of (touches_in t) path ≡ None) where
  places : (p : Node) → path ≡ p → place_of (touches_in t) p ≡ None
  places p h = ap (place_of (touches_in t)) (sym h) ∙ none

  pub put_above : (t' : Table) (n : ℕ) → t'.touched ≡ t.touched → ((p : Node) → get path_eq t'.above p ≡ cond (is_eq (path_cmp path p)) (Some n) (get path_eq t.above p)) → (p : Node) → entry_at t' p ≡ cond (is_eq (path_cmp path p)) (Some (record { place = None; children = n })) (entry_at t p)
  put_above t' n same gets p = (λ j. entry_from (place_of (map touch_from (same j).entries) p) (children_of (get path_eq (same j) p)) (gets p j)) ∙ go (is_eq (path_cmp path p)) (is_same path p) (place_of (touches_in t) p) (places p)
    where
      go : (b : Bool) → (b ≡ true → path ≡ p) → (o : Option ℕ) → (path ≡ p → o ≡ None) → entry_from o (children_of (get path_eq t.touched p)) (cond b (Some n) (get path_eq t.above p)) ≡ cond b (Some (record { place = None; children = n })) (entry_from o (children_of (get path_eq t.touched p)) (get path_eq t.above p))
      go true is o f = ap (λ o. entry_from o (children_of (get path_eq t.touched p)) (Some n)) (f (is refl))
      go false is o f = refl

  pub take_above : (t' : Table) → t'.touched ≡ t.touched → ((p : Node) → get path_eq t'.above p ≡ cond (is_eq (path_cmp path p)) None (get path_eq t.above p)) → (p : Node) → entry_at t' p ≡ cond (is_eq (path_cmp path p)) None (entry_at t p)
  take_above t' same gets p = (λ j. entry_from (place_of (map touch_from (same j).entries) p) (children_of (get path_eq (same j) p)) (gets p j)) ∙ go (is_eq (path_cmp path p)) (is_same path p) (place_of (touches_in t) p) (places p)
    where
      go : (b : Bool) → (b ≡ true → path ≡ p) → (o : Option ℕ) → (path ≡ p → o ≡ None) → entry_from o (children_of (get path_eq t.touched p)) (cond b None (get path_eq t.above p)) ≡ cond b None (entry_from o (children_of (get path_eq t.touched p)) (get path_eq t.above p))
      go true is o f = ap (λ o. entry_from o (children_of (get path_eq t.touched p)) None) (f (is refl))
      go false is o f = refl

-- ---- a touched node gets a further value

module _ (t : Table) (i : ℕ) (k : Node) (v w : Touched) (last : Value) (at : slice_get t.touched.entries i ≡ Some (k, v)) (values : touch_from (k, w) ≡ renewed (touch_from (k, v)) last) where
  pub renewed_touch : Renews (touches_in t) (map touch_from (set_value_at t.touched.entries i w)) i last
  renewed_touch = record { touch = touch_from (k, v); was = touch_read t.touched.entries i k v at; now = touches_set t.touched.entries i k v w at ∙ ap (slice_set (touches_in t) i) values }

  pub renewed_entries : IsUnique path_eq t.touched → w.children ≡ v.children → (p : Node) → entry_at (record { touched = with_value_at t.touched i w; above = t.above }) p ≡ entry_at t p
  renewed_entries unique same = entries_kept t i k v w unique at same (map touch_from (set_value_at t.touched.entries i w)) (λ p. ap (λ ts. place_of ts p) (touches_set t.touched.entries i k v w at) ∙
      place_set (touches_in t) p i (touch_from (k, v)) (touch_from (k, w)) (touch_read t.touched.entries i k v at) refl)

-- ---- a node comes to the touched ones

none_is : (o : Option ℕ) → option_map (λ k. k + 1) o ≡ None → o ≡ None
none_is None e = refl
none_is (Some k) e = cc (e)

pub not_found : (es : List (Node × Touched)) (p : Node) → place_of (map touch_from es) p ≡ None → lookup (path_eq p) es ≡ None
not_found [] p e = refl
not_found (x ∷ es) p e = ap (λ b. cond b (Some x.1) (lookup (path_eq p) es)) (eq_same p x.0) ∙ go (same_path p x.0) (not_found es p) e
  where
    go : (b : Bool) → (place_of (map touch_from es) p ≡ None → lookup (path_eq p) es ≡ None) → (if b then Some 0 else option_map (λ k. k + 1) (place_of (map touch_from es) p)) ≡ None → cond b (Some x.1) (lookup (path_eq p) es) ≡ None
    go true ih e = cc (e)
    go false ih e = ih (none_is _ e)

map_push : (es : List (Node × Touched)) (e : Node × Touched) → map touch_from (es ++ e ∷ []) ≡ map touch_from es ++ touch_from e ∷ []
map_push [] e = refl
map_push (x ∷ es) e = ap (λ l. touch_from x ∷ l) (map_push es e)

module _ (t t' : Table) (k : Node) (w : Touched) (none : place_of (touches_in t) k ≡ None) (made : t'.touched.entries ≡ insert_entry path_eq t.touched.entries k w) where
  pub pushed_touch : touches_in t' ≡ touches_in t ++ touch_from (k, w) ∷ []
  pushed_touch = ap (map touch_from) (made ∙ insert_entry-new path_eq t.touched k w (not_found t.touched.entries k none)) ∙ map_push t.touched.entries (k, w)

  pub pushed_entries : t'.above ≡ t.above → ((p : Node) → get path_eq t'.touched p ≡ cond (is_eq (path_cmp k p)) (Some w) (get path_eq t.touched p)) →
      (p : Node) → entry_at t' p ≡ cond (is_eq (path_cmp k p)) (Some (record { place = Some (length (touches_in t)); children = w.children })) (entry_at t p)
  pushed_entries same gets p = (λ j. entry_from ((ap (λ ts. place_of ts p) pushed_touch ∙ place_push (touches_in t) p (touch_from (k, w)) none ∙ ap (λ b. if b then Some (length (touches_in t)) else place_of (touches_in t) p) (sym (flip_path k p))) j) (children_of (gets p j)) (get path_eq (same j) p)) ∙ go (is_eq (path_cmp k p))
    where
      go : (b : Bool) → entry_from (if b then Some (length (touches_in t)) else place_of (touches_in t) p) (children_of (cond b (Some w) (get path_eq t.touched p))) (get path_eq t.above p) ≡ cond b (Some (record { place = Some (length (touches_in t)); children = w.children })) (entry_at t p)
      go true = refl
      go false = refl
