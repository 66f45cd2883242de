-- The places of nodes.
use Rattle.std.proofs.Common.{◌≡◌, ℕ, zero, suc, ◌<◌, ◌≤◌, ◌+◌, true, false, List, [], ◌∷◌, length, Option, Some, None, refl, sym, ap, ◌∙◌, arith, ◌⊎◌, inl, inr}
use Rattle.std.specs.List.{slice_get}
use Rattle.std.specs.Option.{option_map}
use Rattle.std.specs.declared.cmp.Ordering.{Ordering}
use Rattle.std.specs.declared.cmp.Ordering.TheVariants.{Less, Equal, Greater}
use Rattle.std.specs.Ordering.{is_lt, ordering_reverse}
use Rattle.std.proofs.lemmas.Option.{slice_get_within}
use Rattle.std.proofs.lemmas.Bool.{cases_lt}
use Rattle.sync_path.specs.Paths.{Node, path_cmp, comes_before}
use Rattle.sync_path.specs.Order.{path_cmp_exact, path_cmp_total}
use Rattle.sync_command.specs.declared.commands.Row.{Row}
use Rattle.sync_path.proofs.CallerLemmas.{both, before_asym, before_irrefl}
use Rattle.refluent.specs.Joints.{path_at, is_ascending, comes_before_all}

first_at : (p : Node) (rows : List Row) → comes_before_all p rows ≡ true → (i : ℕ) (q : Node) → path_at rows i ≡ Some q → comes_before p q ≡ true
first_at p [] h i q e = cc (e)
first_at p (row ∷ rows) h zero q e = ap (comes_before p) (sym (same e)) ∙ (both (comes_before p row.path) (comes_before_all p rows) h).0
  where
    same : {x y : Node} → Some x ≡ Some y → x ≡ y
    same e = cc
first_at p (row ∷ rows) h (suc i) q e = first_at p rows (both (comes_before p row.path) (comes_before_all p rows) h).1 i q e

-- of two places the first has the node that comes before
pub rising_at : (rows : List Row) → is_ascending rows ≡ true → (i j : ℕ) (p q : Node) → i < j → path_at rows i ≡ Some p → path_at rows j ≡ Some q → comes_before p q ≡ true
rising_at [] h i j p q less e f = cc (e)
rising_at (row ∷ rows) h i zero p q less e f = absurd (omega arith)
rising_at (row ∷ rows) h zero (suc j) p q less e f = ap (λ x. comes_before x q) (sym (same e)) ∙ first_at row.path rows (both (comes_before_all row.path rows) (is_ascending rows) h).0 j q f
  where
    same : {x y : Node} → Some x ≡ Some y → x ≡ y
    same e = cc
rising_at (row ∷ rows) h (suc i) (suc j) p q less e f = rising_at rows (both (comes_before_all row.path rows) (is_ascending rows) h).1 i j p q (omega arith) e f

-- a node has one place
pub one_place : (rows : List Row) → is_ascending rows ≡ true → (i j : ℕ) (p : Node) → path_at rows i ≡ Some p → path_at rows j ≡ Some p → i ≡ j
one_place rows h i j p e f = go (cases_lt i j) (cases_lt j i)
  where
    never : (a b : ℕ) → a < b → path_at rows a ≡ Some p → path_at rows b ≡ Some p → ⊥
    never a b less x y = let s : comes_before p p ≡ true = rising_at rows h a b p p less x y in let n : comes_before p p ≡ false = before_irrefl p in cc (s, n)

    go : (i < j) ⊎ (j ≤ i) → (j < i) ⊎ (i ≤ j) → i ≡ j
    go (inl a) b = absurd (never i j a e f)
    go (inr a) (inl b) = absurd (never j i b f e)
    go (inr a) (inr b) = omega arith

-- the path is at none of the places but those from the low one up to the high one
pub record IsBetween (rows : List Row) (p : Node) (low high : ℕ) : Type 0 where
  pub order : low ≤ high
  pub end : high ≤ length rows
  pub not_before : (i : ℕ) → i < low → path_at rows i ≡ Some p → ⊥
  pub not_after : (i : ℕ) → high ≤ i → path_at rows i ≡ Some p → ⊥

path_within : (rows : List Row) (i : ℕ) (p : Node) → path_at rows i ≡ Some p → i < length rows
path_within rows i p e = go (slice_get rows i) refl e
  where
    go : (o : Option Row) → slice_get rows i ≡ o → option_map (λ (r : Row). r.path) o ≡ Some p → i < length rows
    go None f e = cc (e)
    go (Some row) f e = slice_get_within rows i row f

pub all_places : (rows : List Row) (p : Node) → IsBetween rows p 0 (length rows)
all_places rows p = record {
  order = omega arith;
  end = omega arith;
  not_before = λ i less e. absurd (omega arith);
  not_after = λ i more e. let w : i < length rows = path_within rows i p e in absurd (omega arith);
}

module _ (rows : List Row) (rising : is_ascending rows ≡ true) (p : Node) (low high : ℕ) (is : IsBetween rows p low high) (middle : ℕ) (at : low ≤ middle) (under : middle < high) (q : Node) (there : path_at rows middle ≡ Some q) where
  never : (i : ℕ) → path_at rows i ≡ Some p → comes_before p q ≡ true → comes_before q p ≡ true → ⊥
  never i e h g = let n : comes_before q p ≡ false = before_asym p q h in cc (g, n)

  same : {x y : Node} → Some x ≡ Some y → x ≡ y
  same e = cc

  flat : comes_before q p ≡ true → path_at rows middle ≡ Some p → ⊥
  flat h e = let s : q ≡ p = same (sym there ∙ e) in let n : comes_before q p ≡ false = ap (comes_before q) (sym s) ∙ before_irrefl q in cc (h, n)

  flat_after : comes_before p q ≡ true → path_at rows middle ≡ Some p → ⊥
  flat_after h e = let s : q ≡ p = same (sym there ∙ e) in let n : comes_before p q ≡ false = ap (comes_before p) s ∙ before_irrefl p in cc (h, n)

  pub above : path_cmp q p ≡ Less → IsBetween rows p (middle + 1) high
  unfolding comes_before
  above h = record {
    order = omega arith;
    end = is.end;
    not_before = λ i less e. go i e (cases_lt i middle) less;
    not_after = is.not_after;
  }
    where
      low_q : comes_before q p ≡ true
      low_q = ap is_lt h

      go : (i : ℕ) → path_at rows i ≡ Some p → (i < middle) ⊎ (middle ≤ i) → i < middle + 1 → ⊥
      go i e (inl l) less = never i e (rising_at rows rising i middle p q l e there) low_q
      go i e (inr m) less = let n : i ≡ middle = omega arith in flat low_q (ap (path_at rows) (sym n) ∙ e)

  pub below : path_cmp q p ≡ Greater → IsBetween rows p low middle
  unfolding comes_before
  below h = record {
    order = at;
    end = let e = is.end in omega arith;
    not_before = is.not_before;
    not_after = λ i more e. go i e (cases_lt middle i) more;
  }
    where
      turned : (a b : Ordering) → a ≡ ordering_reverse b → b ≡ Greater → is_lt a ≡ true
      turned a Less e f = cc (f)
      turned a Equal e f = cc (f)
      turned a Greater e f = ap is_lt e

      low_p : comes_before p q ≡ true
      low_p = turned (path_cmp p q) (path_cmp q p) (path_cmp_total.antisymm p q) h

      go : (i : ℕ) → path_at rows i ≡ Some p → (middle < i) ⊎ (i ≤ middle) → middle ≤ i → ⊥
      go i e (inl l) more = never i e low_p (rising_at rows rising middle i q p l there e)
      go i e (inr m) more = let n : i ≡ middle = omega arith in flat_after low_p (ap (path_at rows) (sym n) ∙ e)

pub found : (rows : List Row) (p q : Node) (i : ℕ) → path_at rows i ≡ Some q → path_cmp q p ≡ Equal → path_at rows i ≡ Some p
found rows p q i e h = e ∙ ap Some (path_cmp_exact q p h)

-- where nothing is left, the path is at no place
pub nothing_left : (rows : List Row) (p : Node) (low high : ℕ) → IsBetween rows p low high → high ≤ low → (i : ℕ) → path_at rows i ≡ Some p → ⊥
nothing_left rows p low high is over i e = go (cases_lt i low)
  where
    go : (i < low) ⊎ (low ≤ i) → ⊥
    go (inl l) = is.not_before i l e
    go (inr m) = is.not_after i (omega arith) e
