-- The children of a node, listed from the entries of a table.
use Rattle.std.proofs.Common.{◌≡◌, ℕ, zero, suc, ◌<◌, nat_eq, Bool, true, false, not, ◌&&◌, ◌||◌, List, [], ◌∷◌, ◌++◌, length, get_or, Option, Some, None, refl, sym, ap, subst, ◌∙◌, arith}
use Rattle.std.specs.Prelude.{IsTrue, if◌then◌else◌, is_none, AllPairs}
use Rattle.std.specs.Cmp.{both_ways}
use Rattle.std.specs.List.{AllByRecursion, Contains, IsDistinct}
use Rattle.std.specs.List.Sorted.{IsPermutation, IsSortedBy}
use Rattle.std.specs.Map.{keys_of, lookup}
use Rattle.std.specs.Ordering.{is_lt}
use Rattle.std.proofs.lemmas.Bool.{eqb-true}
use Rattle.std.proofs.lemmas.List.Sorted.{Contains-permutation, IsPermutation-sym, ranks_by, sorted_far}
use Rattle.std.proofs.lemmas.Map.Keys.{IsDistinct-IsPermutation}
use Rattle.std.proofs.lemmas.Map.Made.{AllPairs-from_IsDistinct}
use Rattle.sync_path.specs.Order.{path_cmp_total, path_eq, path_eq_equiv}
use Rattle.sync_path.specs.Paths.{Node, comes_before, parent, path_cmp, same_path}
use Rattle.sync_path.proofs.CallerLemmas.{before_total, same_path_at, same_path_decides, same_path_is, child_at, child_is}
use Rattle.sync_command.specs.Maps.{Store, at}
use Rattle.sync_command.specs.Values.{is_empty}
use Rattle.apply_model.specs.Children.{AreBelow, AreChildren}
use Rattle.apply_model.specs.Tables.{full_children, is_below, is_full_child, map_of, value_in}
use Rattle.sync_path.specs.Children.{has, is_child}
use Rattle.apply_model.proofs.Tables.{Entries, at-map_of}

-- ---- what has a parent

pub child_by : (b : Bool) (p q : Node) → (IsTrue b → parent p ≡ Some q) → (parent p ≡ Some q → IsTrue b) → b ≡ is_child p q
child_by b p q f g = both_ways b (is_child p q) (λ h. child_at p q (f h)) (λ h. g (child_is p q h))

pub root_by : (p : Node) (k : ℕ) → k ≡ length p → 0 < k → nat_eq k 1 ≡ is_none (parent p)
unfolding parent
root_by p k e some = ap (λ n. nat_eq n 1) e ∙ go p (subst (λ n. 0 < n) e some)
  where
    apart : (k : ℕ) (b : Bool) → nat_eq (suc (suc k)) 1 ≡ b → b ≡ false
    apart k true e = absurd (let two : suc (suc k) ≡ 1 = eqb-true (suc (suc k)) 1 e in omega arith)
    apart k false e = refl

    go : (p : Node) → 0 < length p → nat_eq (length p) 1 ≡ is_none (parent p)
    go [] h = absurd (omega arith)
    go (x ∷ []) h = refl
    go (x ∷ y ∷ p) h = apart (length p) (nat_eq (suc (suc (length p))) 1) refl

below_is : (above : Option Node) (p : Node) → is_below above p ≡ true → parent p ≡ above
below_is None p h = go (parent p) h
  where
    go : (o : Option Node) → is_none o ≡ true → o ≡ None
    go None h = refl
    go (Some q) h = cc
below_is (Some q) p h = child_is p q h

below_at : (above : Option Node) (p : Node) → parent p ≡ above → is_below above p ≡ true
below_at None p e = ap is_none e
below_at (Some q) p e = child_at p q e

-- ---- a list as a test

has_of : (ks : List Node) (p : Node) → Contains ks p → has ks p ≡ true
has_of [] p (i, low, is) = absurd (omega arith)
has_of (k ∷ ks) p (zero, low, is) = ap (λ b. b || has ks p) (same_path_at p k (sym is))
has_of (k ∷ ks) p (suc i, low, is) = go (same_path p k) (has_of ks p (i, omega arith, is))
  where
    go : (b : Bool) → has ks p ≡ true → (b || has ks p) ≡ true
    go true h = refl
    go false h = h

of_has : (ks : List Node) (p : Node) → has ks p ≡ true → Contains ks p
of_has [] p h = cc
of_has (k ∷ ks) p h = go (same_path p k) refl h (of_has ks p)
  where
    further : Contains ks p → Contains (k ∷ ks) p
    further (i, low, is) = (suc i, omega arith, is)

    go : (b : Bool) → same_path p k ≡ b → (b || has ks p) ≡ true → (has ks p ≡ true → Contains ks p) → Contains (k ∷ ks) p
    go true s h rec = (zero, omega arith, sym (same_path_is p k s))
    go false s h rec = further (rec h)

-- ---- the listed children

never_empty : (b : Bool) → (b && not true) ≡ false
never_empty true = refl
never_empty false = refl

gone : (p : Node) (es : Entries) → AllByRecursion (λ y. path_eq p y ≡ false) (keys_of es) → lookup (path_eq p) es ≡ None
gone p [] h = refl
gone p (e ∷ es) h = ap (λ b. if b then Some e.1 else lookup (path_eq p) es) h.0 ∙ gone p es h.1

-- a node is listed where its entry makes it a full child
listed : (above : Option Node) (es : Entries) (p : Node) → IsDistinct path_eq (keys_of es) → has (full_children above es) p ≡ is_full_child above p (value_in (lookup (path_eq p) es))
unfolding IsDistinct same_path
listed above [] p apart = sym (never_empty (is_below above p))
listed above (e ∷ es) p apart = go (listed above es p apart.1) (path_eq p e.0) refl (is_full_child above e.0 e.1.value) refl
  where
    go : has (full_children above es) p ≡ is_full_child above p (value_in (lookup (path_eq p) es)) → (s : Bool) → path_eq p e.0 ≡ s → (b : Bool) → is_full_child above e.0 e.1.value ≡ b →
        has (if b then e.0 ∷ full_children above es else full_children above es) p ≡ is_full_child above p (value_in (if s then Some e.1 else lookup (path_eq p) es))
    go rest true s true k = ap (λ t. t || has (full_children above es) p) s ∙ sym (ap (λ r. is_full_child above r e.1.value) (same_path_is p e.0 s) ∙ k)
    go rest true s false k = rest ∙ ap (λ o. is_full_child above p (value_in o)) (ap (λ r. lookup (path_eq r) es) (same_path_is p e.0 s) ∙ gone e.0 es apart.0) ∙ never_empty (is_below above p)
        ∙ sym (ap (λ r. is_full_child above r e.1.value) (same_path_is p e.0 s) ∙ k)
    go rest false s true k = ap (λ t. t || has (full_children above es) p) s ∙ rest
    go rest false s false k = rest

-- each is listed once
listed_apart : (above : Option Node) (k : Node) (es : Entries) → AllByRecursion (λ y. path_eq k y ≡ false) (keys_of es) → AllByRecursion (λ y. path_eq k y ≡ false) (full_children above es)
listed_apart above k [] h = tt
listed_apart above k (e ∷ es) h = go (is_full_child above e.0 e.1.value) (listed_apart above k es h.1)
  where
    go : (b : Bool) → AllByRecursion (λ y. path_eq k y ≡ false) (full_children above es) → AllByRecursion (λ y. path_eq k y ≡ false) (if b then e.0 ∷ full_children above es else full_children above es)
    go true rec = (h.0, rec)
    go false rec = rec

listed_once : (above : Option Node) (es : Entries) → IsDistinct path_eq (keys_of es) → IsDistinct path_eq (full_children above es)
unfolding IsDistinct
listed_once above [] h = tt
listed_once above (e ∷ es) h = go (is_full_child above e.0 e.1.value) (listed_once above es h.1)
  where
    go : (b : Bool) → IsDistinct path_eq (full_children above es) → IsDistinct path_eq (if b then e.0 ∷ full_children above es else full_children above es)
    go true rec = (listed_apart above e.0 es h.0, rec)
    go false rec = rec

-- ---- in order

abbrev pub IsInOrder : List Node → Type 0
IsInOrder ps = IsSortedBy (λ (p q : Node). is_lt (path_cmp p q)) ps

ascending : (ps : List Node) → IsDistinct path_eq ps → IsInOrder ps → AllPairs (λ p q. IsTrue (comes_before p q)) ps
unfolding comes_before same_path
ascending ps apart sorted i j d low high = before_total (get_or ps j d) (get_or ps i d) (differ (path_eq (get_or ps j d) (get_or ps i d)) refl) late
  where
    late : comes_before (get_or ps j d) (get_or ps i d) ≡ false
    late = sorted_far (λ (p q : Node). is_lt (path_cmp p q)) (ranks_by path_cmp_total (λ (p : Node). p)) ps sorted i j d (omega arith) high

    differ : (b : Bool) → path_eq (get_or ps j d) (get_or ps i d) ≡ b → b ≡ false
    differ true e = absurd (AllPairs-from_IsDistinct {eq = path_eq} same_path_decides ps apart i j d low high (sym (same_path_is (get_or ps j d) (get_or ps i d) e)))
    differ false e = refl

-- ---- the list that a loop over the entries collected, and a sort put in order

module _ (above : Option Node) (es : Entries) (m : Store) (is : map_of es ≡ m) (apart : IsDistinct path_eq (keys_of es)) (found : List Node) (left start : Entries)
    (loop : found ++ full_children above left ≡ full_children above start) (done : left ≡ []) (began : start ≡ es)
    (sorted : List Node) (moved : IsPermutation found sorted) (order : IsInOrder sorted) where
  found_all : found ≡ full_children above es
  found_all = sym (append_nothing found) ∙ ap (λ l. found ++ full_children above l) (sym done) ∙ loop ∙ ap (full_children above) began
    where
      append_nothing : (ps : List Node) → ps ++ [] ≡ ps
      append_nothing [] = refl
      append_nothing (p ∷ ps) = ap (λ l. p ∷ l) (append_nothing ps)

  full : (p : Node) → is_full_child above p (value_in (lookup (path_eq p) es)) ≡ is_full_child above p (at m p)
  full p = ap (is_full_child above p) (sym (at-map_of es p) ∙ ap (λ s. at s p) is)

  found_test : (p : Node) → has found p ≡ is_full_child above p (at m p)
  found_test p = ap (λ l. has l p) found_all ∙ listed above es p apart ∙ full p

  pub all_children : AreChildren (at m) above sorted
  all_children p = (λ h. there (is_below above p) refl (is_empty (at m p)) refl (sym (found_test p) ∙ has_of found p (Contains-permutation sorted found p (IsPermutation-sym found sorted moved) h)), λ h. Contains-permutation found sorted p moved (of_has found p (found_test p ∙ ap (λ b. b && not (is_empty (at m p))) (below_at above p h.0) ∙ ap not h.1)))
    where
      there : (b : Bool) → is_below above p ≡ b → (c : Bool) → is_empty (at m p) ≡ c → (b && not c) ≡ true → (parent p ≡ above) × (is_empty (at m p) ≡ false)
      there true e true f h = cc
      there true e false f h = (below_is above p e, f)
      there false e c f h = cc

  pub all_below : AreBelow above sorted
  all_below = record {
    order = ascending sorted (IsDistinct-IsPermutation path_eq (λ p q. path_eq_equiv.symm p q) found sorted moved (subst (IsDistinct path_eq) (sym found_all) (listed_once above es apart))) order;
    parents = λ k d low. ((all_children (get_or sorted k d)).0 (k, low, same_default sorted k d low)).0;
  }
    where
      same_default : (ps : List Node) (k : ℕ) (d : Node) → k < length ps → get_or ps k (get_or ps k d) ≡ get_or ps k d
      same_default [] k d low = absurd (omega arith)
      same_default (p ∷ ps) zero d low = refl
      same_default (p ∷ ps) (suc k) d low = same_default ps k d (omega arith)
