-- The rows of a table: those of its nodes that are not empty, sorted by their paths.
use Rattle.std.proofs.Common.{◌≡◌, ℕ, zero, suc, ◌<◌, Bool, true, false, cond, List, [], ◌∷◌, ◌++◌, length, get_or, Option, Some, None, refl, sym, ap, subst, ◌∙◌, add-one, arith}
use Rattle.std.specs.Prelude.{if◌then◌else◌, map}
use Rattle.std.specs.List.{AllByRecursion, Contains, IsDistinct, slice_get}
use Rattle.std.specs.List.Sorted.{IsPermutation, IsSortedBy}
use Rattle.std.specs.Map.{keys_of, lookup}
use Rattle.std.specs.Ordering.{is_eq, is_lt, ordering_reverse}
use Rattle.std.specs.declared.cmp.Ordering.{Ordering}
use Rattle.std.specs.declared.cmp.Ordering.TheVariants.{Less, Equal, Greater}
use Rattle.std.proofs.lemmas.List.Sorted.{Contains-permutation, IsPermutation-map, IsPermutation-sym, ranks_by, sorted_far}
use Rattle.std.proofs.lemmas.Map.Entries.{lookup_from_place, place_from_lookup}
use Rattle.std.proofs.lemmas.Map.Keys.{IsDistinct-IsPermutation}
use native.Mathlib.Numerals.{unary_clauses}
use Rattle.sync_path.specs.Order.{path_cmp_exact, path_cmp_total, path_eq, path_eq_equiv}
use Rattle.sync_path.specs.Paths.{Node, path_cmp}
use Rattle.sync_command.specs.Maps.{IsTreeMap, Store, value_or_empty}
use Rattle.sync_command.specs.Rows.{IsRowTree}
use Rattle.sync_command.specs.Values.{is_empty}
use Rattle.sync_command.specs.declared.commands.Row.{Row}
use Rattle.sync_command.specs.declared.values.Value.{Value}
use Rattle.sync_command.specs.declared.values.Value.TheVariants.{Empty}
use Rattle.sync_command.proofs.CallerLemmas.{empty_is}
use Rattle.apply_model.specs.Entries.{entry_of, row_of, rows_of, store_of}
use Rattle.apply_model.specs.Tables.{map_of, value_in}
use Rattle.apply_model.proofs.Rising.{AllAfter, Entries, Rising, at-lookup, entries-from_rising, get-lookup}
use Rattle.apply_model.proofs.RowTrees.{map_entries, map_rows, tree_rows}
use Rattle.apply_model.proofs.Steps.{not_both}
use Rattle.apply_model.proofs.Tables as table
use Rattle.apply_model.proofs.Tables.{at-map_of, full-map_of, same_full}

-- the entries that are not empty, with their values
abbrev pub full_entries : table.Entries → Entries
full_entries [] = []
full_entries (e ∷ es) = if is_empty e.1.value then full_entries es else (e.0, e.1.value) ∷ full_entries es

-- ---- look-ups in lists whose keys differ

none_some : {A : Type 0} {x : A} → ◌≡◌ {A = Option A} None (Some x) → ⊥
none_some e = cc

tied_eq : (q k : Node) → path_eq q k ≡ true → q ≡ k
tied_eq q k e = path_cmp_exact q k (go (path_cmp q k) e)
  where
    go : (o : Ordering) → is_eq o ≡ true → o ≡ Equal
    go Less e = cc
    go Equal e = refl
    go Greater e = cc

has_entry : (es : Entries) (i : ℕ) (x : Node × Value) → slice_get es i ≡ Some x → Contains es x
has_entry [] i x e = absurd (none_some e)
has_entry (y ∷ es) zero x e = (0, omega arith, some_is e)
  where
    some_is : Some y ≡ Some x → y ≡ x
    some_is e = cc
has_entry (y ∷ es) (suc i) x e = let h = has_entry es i x e in (suc h.0, (let low : h.0 < length es = h.1 in omega arith), h.2)

place_of_entry : (es : Entries) (x : Node × Value) → Contains es x → (i : ℕ) × (slice_get es i ≡ Some x)
place_of_entry es x (i, low, is) = (i, go es i low is)
  where
    go : (es : Entries) (i : ℕ) → i < length es → get_or es i x ≡ x → slice_get es i ≡ Some x
    go [] i low is = absurd (omega arith)
    go (y ∷ es) zero low is = ap Some is
    go (y ∷ es) (suc i) low is = go es i (omega arith) is

found_in : (es fs : Entries) → IsPermutation es fs → IsDistinct path_eq (keys_of fs) → (q : Node) (v : Value) → lookup (path_eq q) es ≡ Some v → lookup (path_eq q) fs ≡ Some v
found_in es fs moved apart q v e = go (place_from_lookup (path_eq q) es v e)
  where
    go : (i : ℕ) × (k : Node) × (slice_get es i ≡ Some (k, v)) × (path_eq q k ≡ true) → lookup (path_eq q) fs ≡ Some v
    go (i, k, is, same) =
        let place = place_of_entry fs (k, v) (Contains-permutation es fs (k, v) moved (has_entry es i (k, v) is)) in
        ap (λ r. lookup (path_eq r) fs) (tied_eq q k same) ∙ lookup_from_place path_eq_equiv fs place.0 k v apart place.1

pub lookup-moved : (es fs : Entries) → IsPermutation es fs → IsDistinct path_eq (keys_of es) → IsDistinct path_eq (keys_of fs) → (q : Node) → lookup (path_eq q) fs ≡ lookup (path_eq q) es
lookup-moved es fs moved one two q = go (lookup (path_eq q) es) (lookup (path_eq q) fs) refl refl
  where
    go : (o r : Option Value) → lookup (path_eq q) es ≡ o → lookup (path_eq q) fs ≡ r → r ≡ o
    go None None e f = refl
    go None (Some v) e f = absurd (none_some (sym e ∙ found_in fs es (IsPermutation-sym es fs moved) one q v f))
    go (Some v) r e f = sym f ∙ found_in es fs moved two q v e

-- ---- the entries that are not empty

keys_apart : (k : Node) (es : table.Entries) → AllByRecursion (λ y. path_eq k y ≡ false) (keys_of es) → AllByRecursion (λ y. path_eq k y ≡ false) (keys_of (full_entries es))
keys_apart k [] h = tt
keys_apart k (e ∷ es) h = go (is_empty e.1.value) (keys_apart k es h.1)
  where
    go : (b : Bool) → AllByRecursion (λ y. path_eq k y ≡ false) (keys_of (full_entries es)) → AllByRecursion (λ y. path_eq k y ≡ false) (keys_of (if b then full_entries es else (e.0, e.1.value) ∷ full_entries es))
    go true rec = rec
    go false rec = (h.0, rec)

full_apart : (es : table.Entries) → IsDistinct path_eq (keys_of es) → IsDistinct path_eq (keys_of (full_entries es))
unfolding IsDistinct
full_apart [] h = tt
full_apart (e ∷ es) h = go (is_empty e.1.value) (full_apart es h.1)
  where
    go : (b : Bool) → IsDistinct path_eq (keys_of (full_entries es)) → IsDistinct path_eq (keys_of (if b then full_entries es else (e.0, e.1.value) ∷ full_entries es))
    go true rec = rec
    go false rec = (keys_apart e.0 es h.0, rec)

gone : (k : Node) (es : Entries) → AllByRecursion (λ y. path_eq k y ≡ false) (keys_of es) → lookup (path_eq k) es ≡ None
gone k [] h = refl
gone k (e ∷ es) h = ap (λ b. cond b (Some e.1) (lookup (path_eq k) es)) h.0 ∙ gone k es h.1

lookup-full_entries : (es : table.Entries) → IsDistinct path_eq (keys_of es) → (q : Node) → value_or_empty (lookup (path_eq q) (full_entries es)) ≡ value_in (lookup (path_eq q) es)
unfolding IsDistinct
lookup-full_entries [] h q = refl
lookup-full_entries (e ∷ es) h q = go (is_empty e.1.value) (empty_is e.1.value) (lookup-full_entries es h.1 q)
  where
    hidden : e.1.value ≡ Empty → (t : Bool) → (t ≡ true → q ≡ e.0) → value_or_empty (lookup (path_eq q) (full_entries es)) ≡ value_in (lookup (path_eq q) es) →
        value_or_empty (lookup (path_eq q) (full_entries es)) ≡ value_in (cond t (Some e.1) (lookup (path_eq q) es))
    hidden is true same rec = ap value_or_empty (ap (λ r. lookup (path_eq r) (full_entries es)) (same refl) ∙ gone e.0 (full_entries es) (keys_apart e.0 es h.0)) ∙ sym is
    hidden is false same rec = rec

    shown : (t : Bool) → value_or_empty (lookup (path_eq q) (full_entries es)) ≡ value_in (lookup (path_eq q) es) →
        value_or_empty (cond t (Some e.1.value) (lookup (path_eq q) (full_entries es))) ≡ value_in (cond t (Some e.1) (lookup (path_eq q) es))
    shown true rec = refl
    shown false rec = rec

    go : (b : Bool) → (b ≡ true → e.1.value ≡ Empty) → value_or_empty (lookup (path_eq q) (full_entries es)) ≡ value_in (lookup (path_eq q) es) →
        value_or_empty (lookup (path_eq q) (if b then full_entries es else (e.0, e.1.value) ∷ full_entries es)) ≡ value_in (cond (path_eq q e.0) (Some e.1) (lookup (path_eq q) es))
    go true is rec = hidden (is refl) (path_eq q e.0) (tied_eq q e.0) rec
    go false is rec = shown (path_eq q e.0) rec

no_empty : (es : table.Entries) (q : Node) → lookup (path_eq q) (full_entries es) ≡ Some Empty → ⊥
no_empty [] q e = none_some e
no_empty (x ∷ es) q e = go (is_empty x.1.value) refl e (no_empty es q)
  where
    some_is : {v w : Value} → ◌≡◌ {A = Option Value} (Some v) (Some w) → v ≡ w
    some_is e = cc

    shown : (t : Bool) → is_empty x.1.value ≡ false → cond t (Some x.1.value) (lookup (path_eq q) (full_entries es)) ≡ Some Empty → (lookup (path_eq q) (full_entries es) ≡ Some Empty → ⊥) → ⊥
    shown true k e rec = not_both (is_empty x.1.value) (ap is_empty (some_is e)) k
    shown false k e rec = rec e

    go : (b : Bool) → is_empty x.1.value ≡ b → lookup (path_eq q) (if b then full_entries es else (x.0, x.1.value) ∷ full_entries es) ≡ Some Empty → (lookup (path_eq q) (full_entries es) ≡ Some Empty → ⊥) → ⊥
    go true k e rec = rec e
    go false k e rec = shown (path_eq q x.0) k e rec

-- ---- sorted rows

abbrev paths_of : List Row → List Node
paths_of rows = map (λ (row : Row). row.path) rows

keys-entry_of : (rows : List Row) → keys_of (map entry_of rows) ≡ paths_of rows
keys-entry_of [] = refl
keys-entry_of (row ∷ rows) = ap (λ l. row.path ∷ l) (keys-entry_of rows)

less : (p q : Node) → is_lt (path_cmp q p) ≡ false → path_eq p q ≡ false → path_cmp p q ≡ Less
less p q late apart = go (path_cmp p q) (path_cmp q p) (path_cmp_total.antisymm q p) late apart
  where
    go : (o r : Ordering) → r ≡ ordering_reverse o → is_lt r ≡ false → is_eq o ≡ false → o ≡ Less
    go Less r e late apart = refl
    go Equal r e late apart = cc
    go Greater r e late apart = let low : is_lt r ≡ true = ap is_lt e in cc (low, late)

after_all : (p : Node) (rows : List Row) → AllByRecursion (λ y. path_eq p y ≡ false) (paths_of rows) → ((k : ℕ) (d : Row) → k < length rows → is_lt (path_cmp (get_or rows k d).path p) ≡ false) → AllAfter p (map entry_of rows)
after_all p [] h late = tt
after_all p (row ∷ rows) h late = (less p row.path (late 0 row (omega arith)) h.0, after_all p rows h.1 (λ k d low. late (suc k) d (omega arith)))

abbrev pub IsInOrder : List Row → Type 0
IsInOrder rows = IsSortedBy (λ (a b : Row). is_lt (path_cmp a.path b.path)) rows

pub rising_sorted : (rows : List Row) → IsDistinct path_eq (paths_of rows) → IsInOrder rows → Rising (map entry_of rows)
unfolding IsDistinct
rising_sorted [] apart sorted = tt
rising_sorted (row ∷ rows) apart sorted = (
  after_all row.path rows apart.0 (λ k d low. sorted_far (λ (a b : Row). is_lt (path_cmp a.path b.path)) (ranks_by path_cmp_total (λ (r : Row). r.path)) (row ∷ rows) sorted 0 (suc k) d (omega arith) (omega arith)),
  rising_sorted rows apart.1 (λ k d low high. rw add-one (next k d (omega arith))),
)
  where
    next : (k : ℕ) (d : Row) → suc k < length rows → is_lt (path_cmp (get_or rows (suc k) d).path (get_or rows k d).path) ≡ false
    next k d high = simp unary_clauses at (sorted (suc k) d (omega arith) (omega arith))

-- ---- the rows of a table

module _ (es : table.Entries) (m : Store) (is : map_of es ≡ m) (apart : IsDistinct path_eq (keys_of es)) (rows sorted : List Row) (made : rows ≡ map row_of (full_entries es)) (moved : IsPermutation rows sorted) (order : IsInOrder sorted) where
  moved_entries : IsPermutation (full_entries es) (map entry_of sorted)
  moved_entries = subst (λ l. IsPermutation l (map entry_of sorted)) (ap (map entry_of) made ∙ map_entries (full_entries es)) (IsPermutation-map entry_of rows sorted moved)

  path_eq_flips : (p q : Node) → path_eq p q ≡ path_eq q p
  path_eq_flips p q = path_eq_equiv.symm p q

  moved_apart : IsDistinct path_eq (keys_of (map entry_of sorted))
  moved_apart = IsDistinct-IsPermutation path_eq path_eq_flips _ _ (IsPermutation-map (λ (e : Node × Value). e.0) (full_entries es) (map entry_of sorted) moved_entries) (full_apart es apart)

  rising : Rising (map entry_of sorted)
  rising = rising_sorted sorted (subst (IsDistinct path_eq) (keys-entry_of sorted) moved_apart) order

  same : m ≡ store_of sorted
  same = sym is ∙ same_full (map_of es) (store_of sorted) (full-map_of es) full (λ q.
      at-map_of es q ∙ sym (lookup-full_entries es apart q) ∙ ap value_or_empty (sym (lookup-moved (full_entries es) (map entry_of sorted) moved_entries (full_apart es apart) moved_apart q)) ∙ sym (at-lookup (map entry_of sorted) q))
    where
      full : table.IsFull (store_of sorted)
      full p e = no_empty es p (sym (lookup-moved (full_entries es) (map entry_of sorted) moved_entries (full_apart es apart) moved_apart p) ∙ sym (get-lookup (map entry_of sorted) p) ∙ e)

  rows_are : sorted ≡ rows_of m
  rows_are = sym (map_rows sorted) ∙ ap (map row_of) (sym (entries-from_rising (map entry_of sorted) rising)) ∙ ap rows_of (sym same)

-- what a loop over the entries collected, and a sort put in order
module _ (es : table.Entries) (m : Store) (is : map_of es ≡ m) (apart : IsDistinct path_eq (keys_of es)) (rows : List Row) (left start : table.Entries)
    (loop : rows ++ map row_of (full_entries left) ≡ map row_of (full_entries start)) (done : left ≡ []) (began : start ≡ es) where
  made_all : rows ≡ map row_of (full_entries es)
  made_all = sym (append_nothing rows) ∙ ap (λ l. rows ++ map row_of (full_entries l)) (sym done) ∙ loop ∙ ap (λ l. map row_of (full_entries l)) began
    where
      append_nothing : (rs : List Row) → rs ++ [] ≡ rs
      append_nothing [] = refl
      append_nothing (r ∷ rs) = ap (λ l. r ∷ l) (append_nothing rs)

  module _ (sorted : List Row) (moved : IsPermutation rows sorted) (order : IsInOrder sorted) where
    pub all_rows : sorted ≡ rows_of m
    all_rows = rows_are es m is apart rows sorted made_all moved order

    pub all_tree : IsTreeMap m → IsRowTree sorted
    all_tree tree = subst IsRowTree (sym all_rows) (tree_rows m tree)
