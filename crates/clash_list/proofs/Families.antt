-- The children of a node, found one after another.
use Rattle.std.proofs.Common.{◌≡◌, ℕ, suc, ◌+◌, ◌<◌, ◌≤◌, Bool, true, false, List, [], ◌∷◌, length, get_or, drop, drop-cons, add-one, Option, Some, None, refl, sym, ap, subst, ◌∙◌, arith, ◌⊎◌, inl, inr}
use Rattle.std.specs.Prelude.{if◌then◌else◌}
use Rattle.std.specs.List.{filter, slice_get}
use Rattle.std.specs.Option.{option_map}
use Rattle.std.proofs.lemmas.List.{drop_all}
use Rattle.std.proofs.lemmas.Bool.{cases_lt}
use Rattle.std.proofs.lemmas.Option.{slice_get-get_or, slice_get_within}
use Rattle.sync_path.specs.Paths.{Node, parent}
use Rattle.sync_command.specs.declared.commands.Row.{Row}
use Rattle.sync_command.specs.declared.values.Value.TheVariants.{Empty}
use Rattle.sync_path.specs.Children.{is_child}
use Rattle.sync_path.proofs.CallerLemmas.{child_at, child_is}
use Rattle.refluent.specs.Joints.{path_at}
use Rattle.refluent.specs.Families.{HasParent, IsFirstChild}
use Rattle.clash_list.specs.ClashLists.{Placed, placed_from, nodes_from, children_from}

-- the rows from a place on
pub record IsOpened (rows : List Row) (place : ℕ) (row : Row) (rest : List Row) : Type 0 where
  pub low : place < length rows
  pub at : slice_get rows place ≡ Some row
  pub more : rest ≡ drop (place + 1) rows

pub opened : (rows : List Row) (place : ℕ) (row : Row) (rest : List Row) → row ∷ rest ≡ drop place rows → IsOpened rows place row rest
opened rows place row rest e = cases (cases_lt place (length rows))
  where
    heads : (a b : Row) (xs ys : List Row) → a ∷ xs ≡ b ∷ ys → (a ≡ b) × (xs ≡ ys)
    heads a b xs ys e = (cc, cc)

    none : row ∷ rest ≡ [] → IsOpened rows place row rest
    none f = cc (f)

    cases : (place < length rows) ⊎ (length rows ≤ place) → IsOpened rows place row rest
    cases (inl low) =
        let parts = heads row (get_or rows place row) rest (drop (suc place) rows) (e ∙ drop-cons rows place row low) in
        record { low = low; at = slice_get-get_or rows place row low ∙ ap Some (sym parts.0); more = parts.1 ∙ ap (λ n. drop n rows) (sym (add-one place)) }
    cases (inr high) = none (e ∙ drop_all place rows high)

pub row_open : (rows : List Row) (place : ℕ) (p : Node) → path_at rows place ≡ Some p → nodes_from rows place ≡ record { place = place; path = p } ∷ nodes_from rows (place + 1)
row_open rows place p e = go (drop place rows) refl
  where
    path : (row : Row) → slice_get rows place ≡ Some row → row.path ≡ p
    path row f = same (ap (option_map (λ r. r.path)) (sym f) ∙ e)
      where
        same : Some row.path ≡ Some p → row.path ≡ p
        same e = cc

    low : place < length rows
    low = go (slice_get rows place) refl e
      where
        go : (o : Option Row) → slice_get rows place ≡ o → option_map (λ r. r.path) o ≡ Some p → place < length rows
        go None f g = cc (g)
        go (Some row) f g = slice_get_within rows place row f

    go : (l : List Row) → l ≡ drop place rows → placed_from place l ≡ record { place = place; path = p } ∷ nodes_from rows (place + 1)
    go [] f = absurd (empty (drop place rows) f (drop-cons rows place (record { path = p; value = Empty }) low))
      where
        empty : (l : List Row) {x : Row} {xs : List Row} → [] ≡ l → l ≡ x ∷ xs → ⊥
        empty l f g = let h = f ∙ g in cc (h)
    go (row ∷ rest) f = let o = opened rows place row rest f in λ i. record { place = place; path = path row o.at i } ∷ placed_from (place + 1) (o.more i)

-- the children from a place on, by the first of them
abbrev pub AreFrom : List Row → Node → List Placed → Option ℕ → Type 0
AreFrom rows p children None = children ≡ []
AreFrom rows p children (Some k) = (q : Node) × (path_at rows k ≡ Some q) × (parent q ≡ Some p) × (children ≡ record { place = k; path = q } ∷ children_from rows p (k + 1))

pub children_are : (rows : List Row) (p : Node) (from : ℕ) (found : Option ℕ) → IsFirstChild rows (Some p) from found → AreFrom rows p (children_from rows p from) found
children_are rows p from found first = go (drop from rows) from refl found first
  where
    path : (place : ℕ) (row : Row) → slice_get rows place ≡ Some row → path_at rows place ≡ Some row.path
    path place row e = ap (option_map (λ r. r.path)) e

    go : (l : List Row) (from : ℕ) → l ≡ drop from rows → (found : Option ℕ) → IsFirstChild rows (Some p) from found → AreFrom rows p (filter (λ at. is_child at.path p) (placed_from from l)) found
    go [] from e None first = refl
    go [] from e (Some k) first = absurd (ends (cases_lt from (length rows)))
      where
        empty : (l : List Row) {x : Row} {xs : List Row} → [] ≡ l → l ≡ x ∷ xs → ⊥
        empty l f g = let h = f ∙ g in cc (h)

        ends : (from < length rows) ⊎ (length rows ≤ from) → ⊥
        ends (inl low) = empty (drop from rows) e (drop-cons rows from (record { path = p; value = Empty }) low)
        ends (inr high) = let a : from ≤ k = first.0 in let b : k < length rows = first.1 in omega arith
    go (row ∷ rest) from e found first = let o = opened rows from row rest e in split (is_child row.path p) refl o (λ next. go rest (from + 1) o.more found next)
      where
        later : (o : Option ℕ) → is_child row.path p ≡ false → slice_get rows from ≡ Some row → IsFirstChild rows (Some p) from o → IsFirstChild rows (Some p) (from + 1) o
        later None other at none = λ j low high h. none j (omega arith) high h
        later (Some k) other at none = (after (cases_lt from k), none.1, none.2, λ j low high h. none.3 j (omega arith) high h)
          where
            here : from ≡ k → ⊥
            here is = let h = none.2 in clash (subst (λ n. path_at rows n ≡ Some h.0) (sym is) h.1) h.2
              where
                clash : path_at rows from ≡ Some none.2.0 → parent none.2.0 ≡ Some p → ⊥
                clash f g = let s : Some row.path ≡ Some none.2.0 = sym (path from row at) ∙ f in differ (same s) g
                  where
                    same : {a b : Node} → Some a ≡ Some b → a ≡ b
                    same e = cc

                    differ : row.path ≡ none.2.0 → parent none.2.0 ≡ Some p → ⊥
                    differ s g = let c : is_child row.path p ≡ true = child_at row.path p (ap parent s ∙ g) in cc (c, other)

            after : (from < k) ⊎ (k ≤ from) → from + 1 ≤ k
            after (inl l) = omega arith
            after (inr h) = let a : from ≤ k = none.0 in absurd (here (omega arith))

        split : (b : Bool) → is_child row.path p ≡ b → IsOpened rows from row rest → (IsFirstChild rows (Some p) (from + 1) found → AreFrom rows p (filter (λ at. is_child at.path p) (placed_from (from + 1) rest)) found) → AreFrom rows p (if b then record { place = from; path = row.path } ∷ filter (λ at. is_child at.path p) (placed_from (from + 1) rest) else filter (λ at. is_child at.path p) (placed_from (from + 1) rest)) found
        split false other o rec = rec (later found other o.at first)
        split true is o rec = here found first
          where
            has : HasParent rows (Some p) from
            has = (row.path, path from row o.at, child_is row.path p is)

            first_one : (k : ℕ) → from ≡ k → AreFrom rows p (record { place = from; path = row.path } ∷ filter (λ at. is_child at.path p) (placed_from (from + 1) rest)) (Some k)
            first_one k e = subst (λ n. AreFrom rows p (record { place = from; path = row.path } ∷ filter (λ at. is_child at.path p) (placed_from (from + 1) rest)) (Some n)) e
                (row.path, path from row o.at, child_is row.path p is, ap (λ l. record { place = from; path = row.path } ∷ filter (λ at. is_child at.path p) (placed_from (from + 1) l)) o.more)

            here : (o : Option ℕ) → IsFirstChild rows (Some p) from o → AreFrom rows p (record { place = from; path = row.path } ∷ filter (λ at. is_child at.path p) (placed_from (from + 1) rest)) o
            here None none = absurd (none from (omega arith) o.low has)
            here (Some k) none = cases (cases_lt from k)
              where
                cases : (from < k) ⊎ (k ≤ from) → AreFrom rows p (record { place = from; path = row.path } ∷ filter (λ at. is_child at.path p) (placed_from (from + 1) rest)) (Some k)
                cases (inl l) = absurd (none.3 from (omega arith) l has)
                cases (inr h) = let a : from ≤ k = none.0 in first_one k (omega arith)
