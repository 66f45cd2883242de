-- The first node under another at which a set leaves something, and the table by which it is found.
use Rattle.std.proofs.Common.{◌≡◌, ℕ, zero, suc, ◌+◌, ◌<◌, ◌≤◌, Bool, true, false, cond, List, [], ◌∷◌, length, Option, Some, None, refl, sym, ap, subst, ◌∙◌, arith, ◌⊎◌, inl, inr}
use Rattle.std.specs.Prelude.{find, slice_set}
use Rattle.std.specs.List.{slice_get}
use Rattle.std.specs.Option.{option_map}
use Rattle.std.proofs.lemmas.Bool.{cases_lt}
use Rattle.sync_path.specs.Paths.{IsUnder, Node, comes_before, is_under}
use Rattle.sync_command.specs.declared.commands.Row.{Row}
use Rattle.sync_command.specs.Values.{is_empty}
use Rattle.sync_command.specs.Changes.{Change}
use Rattle.sync_command.specs.Trees.{command_at}
use Rattle.refluent.specs.Families.{IsFirstPlace, NonePasses}
use Rattle.refluent.specs.Joints.{is_ascending, path_at}
use Rattle.sync_path.proofs.CallerLemmas.{before_asym, before_irrefl, both, contiguous, under_after, under_is}
use Rattle.pref_list.proofs.CallerLemmas.{path_within, rising_at, set_here}
use Rattle.explain_core.specs.Chains.{denies}
use Rattle.explain_core.specs.FirstChains.{first_left_under, is_left_under}
use Rattle.explain_core.specs.Nexts.{AreNexts, IsLeftAt, next_at, next_or}
use Rattle.explain_core.proofs.ChainLaws.{and, not_both, is_or_not}
use Rattle.explain_core.proofs.Placing.{some_is}
use Rattle.explain_core.proofs.Leading.{under_rest}

-- ---- the first that passes

find_none : {X : Type 0} (f : X → Bool) (xs : List X) → ((i : ℕ) (x : X) → slice_get xs i ≡ Some x → f x ≡ false) → find f xs ≡ None
find_none f [] none = refl
find_none f (x ∷ xs) none = ap (λ b. cond b (Some x) (find f xs)) (none 0 x refl) ∙ find_none f xs (λ i y e. none (suc i) y e)

find_first : {X : Type 0} (f : X → Bool) (xs : List X) (k : ℕ) (x : X) → slice_get xs k ≡ Some x → f x ≡ true → ((i : ℕ) (y : X) → i < k → slice_get xs i ≡ Some y → f y ≡ false) → find f xs ≡ Some x
find_first f [] k x e h before = cc (e)
find_first f (y ∷ xs) zero x e h before = ap (λ b. cond b (Some y) (find f xs)) (ap f (some_is e) ∙ h) ∙ e
find_first f (y ∷ xs) (suc k) x e h before = ap (λ b. cond b (Some y) (find f xs)) (before 0 y (omega arith) refl) ∙ find_first f xs k x e h (λ i z less g. before (suc i) z (omega arith) g)

-- what was found, or nothing was
pub record IsFound {X : Type 0} (f : X → Bool) (xs : List X) (x : X) : Type 0 where
  pub place : ℕ
  pub at : slice_get xs place ≡ Some x
  pub passes : f x ≡ true
  pub before : (i : ℕ) (y : X) → i < place → slice_get xs i ≡ Some y → f y ≡ false

find_says : {X : Type 0} (f : X → Bool) (xs : List X) (x : X) → find f xs ≡ Some x → IsFound f xs x
find_says f [] x e = cc (e)
find_says {X = X} f (y ∷ xs) x e = go (is_or_not (f y)) (λ h. find_says f xs x h)
  where
    go : (f y ≡ true) ⊎ (f y ≡ false) → (find f xs ≡ Some x → IsFound f xs x) → IsFound f (y ∷ xs) x
    go (inl h) rec =
        let same : y ≡ x = some_is (ap (λ b. cond b (Some y) (find f xs)) (sym h) ∙ e) in
        record { place = 0; at = ap Some same; passes = ap f (sym same) ∙ h; before = λ i z less g. absurd (omega arith) }
    go (inr h) rec =
        let r = rec (ap (λ b. cond b (Some y) (find f xs)) (sym h) ∙ e) in
        record { place = suc r.place; at = r.at; passes = r.passes; before = λ i z less g. earlier r.place r.before i z less g }
      where
        earlier : (place : ℕ) → ((i : ℕ) (z : X) → i < place → slice_get xs i ≡ Some z → f z ≡ false) → (i : ℕ) (z : X) → i < suc place → slice_get (y ∷ xs) i ≡ Some z → f z ≡ false
        earlier place before zero z less g = ap f (sym (some_is g)) ∙ h
        earlier place before (suc i) z less g = before i z (omega arith) g

none_says : {X : Type 0} (f : X → Bool) (xs : List X) → find f xs ≡ None → (i : ℕ) (x : X) → slice_get xs i ≡ Some x → f x ≡ false
none_says f [] e i x g = cc (g)
none_says f (y ∷ xs) e i x g = go (is_or_not (f y)) (λ h i g. none_says f xs h i x g) i g
  where
    go : (f y ≡ true) ⊎ (f y ≡ false) → (find f xs ≡ None → (i : ℕ) → slice_get xs i ≡ Some x → f x ≡ false) → (i : ℕ) → slice_get (y ∷ xs) i ≡ Some x → f x ≡ false
    go (inl h) rec i g = let some : Some y ≡ None = ap (λ b. cond b (Some y) (find f xs)) (sym h) ∙ e in cc (some)
    go (inr h) rec zero g = ap f (sym (some_is g)) ∙ h
    go (inr h) rec (suc i) g = rec (ap (λ b. cond b (Some y) (find f xs)) (sym h) ∙ e) i g

-- ---- the first node

module _ (rows : List Row) (up : is_ascending rows ≡ true) (ms : List Change) (n : Node) where
  abbrev passes : Row → Bool
  passes row = is_left_under ms n row.path

  row_path : (i : ℕ) (row : Row) → slice_get rows i ≡ Some row → path_at rows i ≡ Some row.path
  row_path i row e = ap (option_map (λ (r : Row). r.path)) e

  path_row : (i : ℕ) (p : Node) → path_at rows i ≡ Some p → (row : Row) × (slice_get rows i ≡ Some row) × (row.path ≡ p)
  path_row i p e = go (slice_get rows i) refl e
    where
      go : (o : Option Row) → slice_get rows i ≡ o → option_map (λ (r : Row). r.path) o ≡ Some p → (row : Row) × (slice_get rows i ≡ Some row) × (row.path ≡ p)
      go None s e = cc (e)
      go (Some row) s e = (row, s, some_is e)

  -- what is found is the first in path order
  pub found_first : (p : Node) → first_left_under rows ms n ≡ Some p →
      (is_left_under ms n p ≡ true) × ((q : Node) (k : ℕ) → path_at rows k ≡ Some q → is_left_under ms n q ≡ true → comes_before q p ≡ false)
  found_first p e = go (find passes rows) refl e
    where
      go : (o : Option Row) → find passes rows ≡ o → option_map (λ (row : Row). row.path) o ≡ Some p → (is_left_under ms n p ≡ true) × ((q : Node) (k : ℕ) → path_at rows k ≡ Some q → is_left_under ms n q ≡ true → comes_before q p ≡ false)
      go None f e = cc (e)
      go (Some row) f e = (subst (λ x. is_left_under ms n x ≡ true) (some_is e) is.passes, first)
        where
          is : IsFound passes rows row
          is = find_says passes rows row f

          at : path_at rows is.place ≡ Some p
          at = row_path is.place row is.at ∙ e

          first : (q : Node) (k : ℕ) → path_at rows k ≡ Some q → is_left_under ms n q ≡ true → comes_before q p ≡ false
          first q k there left = split (cases_lt k is.place) (cases_lt is.place k)
            where
              split : (k < is.place) ⊎ (is.place ≤ k) → (is.place < k) ⊎ (k ≤ is.place) → comes_before q p ≡ false
              split (inl less) b =
                  let r = path_row k q there in
                  absurd (not_both (is_left_under ms n q) left (ap (is_left_under ms n) (sym r.2) ∙ is.before k r.0 less r.1))
              split (inr more) (inl less) = before_asym p q (rising_at rows up is.place k p q less at there)
              split (inr more) (inr over) =
                  let same : k ≡ is.place = omega arith in
                  let one : q ≡ p = some_is (sym there ∙ ap (path_at rows) same ∙ at) in
                  ap (comes_before q) (sym one) ∙ before_irrefl q

  -- where nothing is found there is none
  pub none_left : first_left_under rows ms n ≡ None → (q : Node) (k : ℕ) → path_at rows k ≡ Some q → is_left_under ms n q ≡ false
  none_left e q k there = go (find passes rows) refl e
    where
      go : (o : Option Row) → find passes rows ≡ o → option_map (λ (row : Row). row.path) o ≡ None → is_left_under ms n q ≡ false
      go (Some row) f e = cc (e)
      go None f e = let r = path_row k q there in ap (is_left_under ms n) (sym r.2) ∙ none_says passes rows f k r.0 r.1

  -- ---- by the table

  module _ (place : ℕ) (here : path_at rows place ≡ Some n) where
    -- such a node has a later place
    later : (k : ℕ) (p : Node) → path_at rows k ≡ Some p → is_under p n ≡ true → place + 1 ≤ k
    later k p there under = split (cases_lt place k)
      where
        low : comes_before n p ≡ true
        low = let r = under_rest p n under in under_after p n r.1

        split : (place < k) ⊎ (k ≤ place) → place + 1 ≤ k
        split (inl less) = omega arith
        split (inr over) = absurd (again (cases_lt k place))
          where
            again : (k < place) ⊎ (place ≤ k) → ⊥
            again (inl less) = not_both (comes_before n p) low (before_asym p n (rising_at rows up k place p n less there here))
            again (inr more) =
                let same : k ≡ place = omega arith in
                let one : p ≡ n = some_is (sym there ∙ ap (path_at rows) same ∙ here) in
                not_both (comes_before n p) low (ap (comes_before n) one ∙ before_irrefl n)

    left_parts : (p : Node) → is_left_under ms n p ≡ true → (is_under p n ≡ true) × (denies is_empty (command_at ms p) ≡ true)
    left_parts p e = both (is_under p n) (denies is_empty (command_at ms p)) e

    nothing : ((k : ℕ) (p : Node) → path_at rows k ≡ Some p → is_left_under ms n p ≡ true → ⊥) → first_left_under rows ms n ≡ None
    nothing never = ap (option_map (λ (row : Row). row.path)) (find_none passes rows (λ i row e. fails i row e (is_or_not (passes row))))
      where
        fails : (i : ℕ) (row : Row) → slice_get rows i ≡ Some row → (passes row ≡ true) ⊎ (passes row ≡ false) → passes row ≡ false
        fails i row e (inl h) = absurd (never i row.path (row_path i row e) h)
        fails i row e (inr h) = h

    pub none_after : IsFirstPlace (IsLeftAt rows ms) (place + 1) (length rows) None → first_left_under rows ms n ≡ None
    none_after none = nothing (λ k p there left.
        let parts = left_parts p left in
        none k (later k p there parts.0) (path_within rows k p there) (p, there, parts.1))

    module _ (low : ℕ) (is : IsFirstPlace (IsLeftAt rows ms) (place + 1) (length rows) (Some low)) (p : Node) (there : path_at rows low ≡ Some p) where
      pub first_under : is_under p n ≡ true → first_left_under rows ms n ≡ Some p
      first_under under =
          let r = path_row low p there in
          let q = is.2.0 in
          let same : q ≡ p = some_is (sym is.2.1 ∙ there) in
          let left : is_left_under ms n p ≡ true = and (is_under p n) (denies is_empty (command_at ms p)) under (ap (λ x. denies is_empty (command_at ms x)) (sym same) ∙ is.2.2) in
          ap (option_map (λ (row : Row). row.path)) (find_first passes rows low r.0 r.1 (ap (is_left_under ms n) r.2 ∙ left) (λ i row less e. fails i row less e (is_or_not (passes row)))) ∙ ap Some r.2
        where
          fails : (i : ℕ) (row : Row) → i < low → slice_get rows i ≡ Some row → (passes row ≡ true) ⊎ (passes row ≡ false) → passes row ≡ false
          fails i row less e (inr h) = h
          fails i row less e (inl h) =
              let parts = left_parts row.path h in
              absurd (is.3 i (later i row.path (row_path i row e) parts.0) less (row.path, row_path i row e, parts.1))

      pub none_under : is_under p n ≡ false → first_left_under rows ms n ≡ None
      none_under apart = nothing never
        where
          never : (k : ℕ) (q : Node) → path_at rows k ≡ Some q → is_left_under ms n q ≡ true → ⊥
          never k q at left = split (cases_lt k low) (cases_lt low k)
            where
              parts : (is_under q n ≡ true) × (denies is_empty (command_at ms q) ≡ true)
              parts = left_parts q left

              split : (k < low) ⊎ (low ≤ k) → (low < k) ⊎ (k ≤ low) → ⊥
              split (inl less) b = is.3 k (later k q at parts.0) less (q, at, parts.1)
              split (inr more) (inr over) =
                  let same : k ≡ low = omega arith in
                  let one : q ≡ p = some_is (sym at ∙ ap (path_at rows) same ∙ there) in
                  not_both (is_under q n) parts.0 (ap (λ x. is_under x n) one ∙ apart)
              split (inr more) (inl less) =
                  let r = under_rest q n parts.0 in
                  let between : IsUnder p n = contiguous n p q r.1 (rising_at rows up place low n p (let l : place + 1 ≤ low = is.0 in omega arith) here there) (rising_at rows up low k p q less there at) in
                  not_both (is_under p n) ((under_is p n r.0).1 between) apart

-- ---- the table

-- the first such place at or after one, and the table from there on
pub record AreFrom (rows : List Row) (ms : List Change) (from : ℕ) (found : Option ℕ) (nexts : List (Option ℕ)) : Type 0 where
  pub high : from ≤ length rows
  pub next : IsFirstPlace (IsLeftAt rows ms) from (length rows) found
  pub table : AreNexts rows ms from nexts

pub are_from_end : (rows : List Row) (ms : List Change) (from : ℕ) (nexts : List (Option ℕ)) → from ≡ length rows → length nexts ≡ length rows → AreFrom rows ms from None nexts
are_from_end rows ms from nexts end many = record {
  high = omega arith;
  next = λ j low less h. absurd (omega arith);
  table = record { many = many; each = λ i low. past i (next_at nexts i) low (slice_past nexts i (omega arith)) };
}
  where
    slice_past : (xs : List (Option ℕ)) (i : ℕ) → length xs ≤ i → next_at xs i ≡ None
    slice_past [] i low = refl
    slice_past (x ∷ xs) zero low = absurd (omega arith)
    slice_past (x ∷ xs) (suc i) low = slice_past xs i (omega arith)

    past : (i : ℕ) (o : Option ℕ) → from ≤ i → o ≡ None → IsFirstPlace (IsLeftAt rows ms) i (length rows) o
    past i None low e = λ j at less h. absurd (omega arith)
    past i (Some k) low e = cc (e)

-- the next place, where this one is passed over or is such a place itself
pub next_here : (rows : List Row) (ms : List Change) (place : ℕ) → place < length rows → (p : Node) → path_at rows place ≡ Some p → denies is_empty (command_at ms p) ≡ true → IsFirstPlace (IsLeftAt rows ms) place (length rows) (Some place)
next_here rows ms place low p at left = (omega arith, low, (p, at, left), λ j from less h. absurd (omega arith))

pub next_later : (rows : List Row) (ms : List Change) (place : ℕ) (next : Option ℕ) → (p : Node) → path_at rows place ≡ Some p → denies is_empty (command_at ms p) ≡ false → IsFirstPlace (IsLeftAt rows ms) (place + 1) (length rows) next → IsFirstPlace (IsLeftAt rows ms) place (length rows) next
next_later rows ms place next p at not_left first = go next first
  where
    skip : (end : ℕ) → NonePasses (IsLeftAt rows ms) (place + 1) end → NonePasses (IsLeftAt rows ms) place end
    skip end none j from less h = split (cases_lt place j)
      where
        split : (place < j) ⊎ (j ≤ place) → ⊥
        split (inl later) = none j (omega arith) less h
        split (inr over) =
            let same : j ≡ place = omega arith in
            let one : h.0 ≡ p = some_is (sym h.1 ∙ ap (path_at rows) same ∙ at) in
            not_both (denies is_empty (command_at ms p)) (ap (λ x. denies is_empty (command_at ms x)) (sym one) ∙ h.2) not_left

    go : (o : Option ℕ) → IsFirstPlace (IsLeftAt rows ms) (place + 1) (length rows) o → IsFirstPlace (IsLeftAt rows ms) place (length rows) o
    go None none = skip (length rows) none
    go (Some k) (from, less, so, none) = (omega arith, less, so, skip k none)

pub are_from_more : (rows : List Row) (ms : List Change) (from place : ℕ) (old next : Option ℕ) (nexts : List (Option ℕ)) → from ≡ place + 1 → AreFrom rows ms from old nexts → IsFirstPlace (IsLeftAt rows ms) place (length rows) next → AreFrom rows ms place next (slice_set nexts place next)
are_from_more rows ms from place old next nexts step so first = record {
  high = let h : from ≤ length rows = so.high in omega arith;
  next = first;
  table = record { many = set_length nexts place next ∙ so.table.many; each = each };
}
  where
    set_length : (xs : List (Option ℕ)) (i : ℕ) (x : Option ℕ) → length (slice_set xs i x) ≡ length xs
    set_length [] i x = refl
    set_length (y ∷ xs) zero x = refl
    set_length (y ∷ xs) (suc i) x = ap suc (set_length xs i x)

    other : (xs : List (Option ℕ)) (i : ℕ) (x : Option ℕ) (k : ℕ) → (k ≡ i → ⊥) → slice_get (slice_set xs i x) k ≡ slice_get xs k
    other [] i x k apart = refl
    other (y ∷ xs) zero x zero apart = absurd (apart refl)
    other (y ∷ xs) zero x (suc k) apart = refl
    other (y ∷ xs) (suc i) x zero apart = refl
    other (y ∷ xs) (suc i) x (suc k) apart = other xs i x k (λ e. apart (ap suc e))

    each : (i : ℕ) → place ≤ i → IsFirstPlace (IsLeftAt rows ms) i (length rows) (next_at (slice_set nexts place next) i)
    each i low = split (cases_lt place i)
      where
        split : (place < i) ⊎ (i ≤ place) → IsFirstPlace (IsLeftAt rows ms) i (length rows) (next_at (slice_set nexts place next) i)
        split (inl later) = subst (IsFirstPlace (IsLeftAt rows ms) i (length rows)) (ap next_or (sym (other nexts place next i (λ e. absurd (omega arith))))) (so.table.each i (omega arith))
        split (inr over) =
            let same : i ≡ place = omega arith in
            let h : from ≤ length rows = so.high in
            let m : length nexts ≡ length rows = so.table.many in
            subst (λ k. IsFirstPlace (IsLeftAt rows ms) k (length rows) (next_at (slice_set nexts place next) k)) (sym same)
            (subst (IsFirstPlace (IsLeftAt rows ms) place (length rows)) (ap next_or (sym (set_here nexts place next (omega arith)))) first)

-- whether a node is under another, by the test
pub under_test : (p n : Node) → 0 < length n → (b : Bool) → (b ≡ true → IsUnder p n) → (IsUnder p n → b ≡ true) → b ≡ is_under p n
under_test p n some true is same = sym ((under_is p n some).1 (is refl))
under_test p n some false is same = go (is_under p n) refl
  where
    go : (b : Bool) → is_under p n ≡ b → false ≡ b
    go false e = refl
    go true e = let t : false ≡ true = same ((under_is p n some).0 e) in cc (t)
