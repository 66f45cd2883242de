-- The places of the nodes of a joint.
use Rattle.std.proofs.Common.{◌≡◌, ℕ, zero, suc, ◌+◌, ◌<◌, Bool, true, false, not, cond, List, [], ◌∷◌, ◌++◌, length, map, Option, Some, None, refl, sym, ap, ◌∙◌, arith}
use Rattle.std.specs.List.{slice_get}
use Rattle.std.specs.Option.{option_map}
use Rattle.std.proofs.lemmas.List.{map-append}
use Rattle.sync_path.specs.Paths.{Node, parent, same_path, comes_before}
use Rattle.sync_command.specs.declared.values.Value.{Value}
use Rattle.sync_command.specs.declared.commands.Row.{Row}
use Rattle.sync_command.specs.Maps.{value_or_empty}
use Rattle.refluent.specs.Joints.{comes_before_all, is_ascending, path_at, value_at, value_in}
use Rattle.refluent.specs.Picks.{IsParentPlace}
use Rattle.sync_path.proofs.CallerLemmas.{before_irrefl, both, same_path_at, same_path_is}
use Rattle.refluent.proofs.CallerLemmas.{value_at_row}
use Rattle.pref_list.proofs.CallerLemmas.{rising_at}
use Rattle.explain_core.specs.Reasons.{AreAt, place_of}

pub some_is : {X : Type 0} {x y : X} → Some x ≡ Some y → x ≡ y
some_is e = cc

-- a node's place is the first of its row, and there is one alone
pub place_is : (rows : List Row) → is_ascending rows ≡ true → (i : ℕ) (p : Node) → path_at rows i ≡ Some p → place_of rows p ≡ i
place_is [] up i p e = cc (e)
place_is (row ∷ rows) up zero p e = go (same_path p row.path) (same_path_at p row.path (sym (some_is e)))
  where
    go : (b : Bool) → b ≡ true → cond (not b) (1 + place_of rows p) 0 ≡ 0
    go true e = refl
    go false e = cc (e)
place_is (row ∷ rows) up (suc i) p e = go (same_path p row.path) (same_path_is p row.path) (place_is rows (both (comes_before_all row.path rows) (is_ascending rows) up).1 i p e)
  where
    low : comes_before row.path p ≡ true
    low = rising_at (row ∷ rows) up 0 (suc i) row.path p (omega arith) refl e

    go : (b : Bool) → (b ≡ true → p ≡ row.path) → place_of rows p ≡ i → cond (not b) (1 + place_of rows p) 0 ≡ suc i
    go true is rest = let flat : comes_before row.path p ≡ false = ap (comes_before row.path) (is refl) ∙ before_irrefl row.path in cc (low, flat)
    go false is rest = omega (arith, rest)

pub place_at : (rows : List Row) → is_ascending rows ≡ true → (i : ℕ) (p : Node) → path_at rows i ≡ Some p → path_at rows (place_of rows p) ≡ Some p
place_at rows up i p e = ap (path_at rows) (place_is rows up i p e) ∙ e

-- ---- places of some nodes

first_same : {X : Type 0} {x y : X} {xs ys : List X} → x ∷ xs ≡ y ∷ ys → x ≡ y
first_same e = cc

rest_same : {X : Type 0} {x y : X} {xs ys : List X} → x ∷ xs ≡ y ∷ ys → xs ≡ ys
rest_same e = cc

pub at_first : (rows : List Row) (i : ℕ) (is : List ℕ) (x : Node) (xs : List Node) → AreAt rows (i ∷ is) (x ∷ xs) → path_at rows i ≡ Some x
at_first rows i is x xs e = first_same e

pub at_rest : (rows : List Row) (i : ℕ) (is : List ℕ) (x : Node) (xs : List Node) → AreAt rows (i ∷ is) (x ∷ xs) → AreAt rows is xs
at_rest rows i is x xs e = rest_same e

pub places_are : (rows : List Row) → is_ascending rows ≡ true → (is : List ℕ) (xs : List Node) → AreAt rows is xs → is ≡ map (place_of rows) xs
places_are rows up [] [] e = refl
places_are rows up [] (x ∷ xs) e = cc (e)
places_are rows up (i ∷ is) [] e = cc (e)
places_are rows up (i ∷ is) (x ∷ xs) e =
    let here : i ≡ place_of rows x = sym (place_is rows up i x (at_first rows i is x xs e)) in
    let rest : is ≡ map (place_of rows) xs = places_are rows up is xs (at_rest rows i is x xs e) in
    λ k. here k ∷ rest k

-- one more node at the end
pub at_more : (rows : List Row) (is : List ℕ) (xs : List Node) (i : ℕ) (x : Node) → AreAt rows is xs → path_at rows i ≡ Some x → AreAt rows (is ++ i ∷ []) (xs ++ x ∷ [])
at_more rows is xs i x e f = map-append (path_at rows) is (i ∷ []) ∙ (λ k. e k ++ f k ∷ []) ∙ sym (map-append Some xs (x ∷ []))

-- ---- parents

pub parent_place : (rows : List Row) (n : Node) (up : ℕ) → IsParentPlace rows (parent n) (Some up) → (q : Node) × (parent n ≡ Some q) × (path_at rows up ≡ Some q)
parent_place rows n up h = go (parent n) refl h
  where
    go : (o : Option Node) → parent n ≡ o → IsParentPlace rows o (Some up) → (q : Node) × (parent n ≡ Some q) × (path_at rows up ≡ Some q)
    go None e h = cc (h)
    go (Some q) e (i, is, at) = (q, e, ap (path_at rows) (some_is is) ∙ at)

pub no_parent_place : (rows : List Row) (n : Node) → IsParentPlace rows (parent n) None → parent n ≡ None
no_parent_place rows n h = go (parent n) refl h
  where
    go : (o : Option Node) → parent n ≡ o → IsParentPlace rows o None → parent n ≡ None
    go None e h = e
    go (Some q) e (i, is, at) = cc (is)

-- ---- values

pub first_at : (rows : List Row) → is_ascending rows ≡ true → (i : ℕ) (p : Node) (v : Value) → path_at rows i ≡ Some p → value_at rows i ≡ Some v → value_or_empty (value_in rows p) ≡ v
first_at rows up i p v e f = go (slice_get rows i) refl e f
  where
    go : (o : Option Row) → slice_get rows i ≡ o → option_map (λ (r : Row). r.path) o ≡ Some p → option_map (λ (r : Row). r.value) o ≡ Some v → value_or_empty (value_in rows p) ≡ v
    go None s e f = cc (e)
    go (Some row) s e f = ap (λ q. value_or_empty (value_in rows q)) (sym (some_is e)) ∙ ap value_or_empty (value_at_row rows up i row s) ∙ some_is f

pub path_below : (rows : List Row) (i : ℕ) → i < length rows → (p : Node) × (path_at rows i ≡ Some p)
path_below [] i low = absurd (omega arith)
path_below (row ∷ rows) zero low = (row.path, refl)
path_below (row ∷ rows) (suc i) low = path_below rows i (omega arith)
