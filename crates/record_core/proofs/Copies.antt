-- A subtree that is copied: its commands are taken by the tree.
use Rattle.std.proofs.Common.{◌≡◌, ◌⊎◌, inl, inr, ℕ, ◌<◌, Bool, true, false, ◌||◌, List, [], ◌∷◌, ◌++◌, length, length-append, drop, Option, Some, None, refl, sym, ap, subst, ◌∙◌, arith, append_assoc, append-nil}
use Rattle.std.specs.Prelude.{map, if◌then◌else◌}
use Rattle.std.specs.List.{AllByRecursion}
use Rattle.std.specs.declared.cmp.Ordering.{Ordering}
use Rattle.std.specs.declared.cmp.Ordering.TheVariants.{Less, Equal, Greater}
use Rattle.std.specs.Cmp.Lexicographic.{slice_cmp}
use Rattle.std.specs.Ordering.{is_lt, nat_cmp, ordering_then}
use Rattle.sync_path.specs.Paths.{Node, comes_before, is_under, moved, parent, path_cmp, same_path}
use Rattle.sync_path.proofs.CallerLemmas.{before_irrefl, equal_is, parent_is, same_path_at, same_path_is, same_path_refl, under_is, under_split, HasParentUnder}
use Rattle.sync_command.specs.Values.{is_dir, is_empty}
use Rattle.sync_command.specs.Changes.{Change, is_canonical, is_down}
use Rattle.sync_command.specs.Maps.{IsTreeMap, Store, at}
use Rattle.sync_command.specs.Trees.{Fits, Takes, after, command_at, new_or, one_each}
use Rattle.sync_command.proofs.CallerLemmas.{empty_is, fits_takes, full_from_dir, tree_above}
use Rattle.record_core.specs.Meanings.{copied, nodes_of, subtree}
use Rattle.record_core.proofs.Ascending.{from_or, has, not_both, or_left, or_right}
use Rattle.record_core.proofs.Meant.{Goes, IsSingle, at_member, at_some, canonical_pairs, pairs_from}
use Rattle.record_core.proofs.SubtreeLemmas.{in_subtree, is_in, subtree_ascends, to_subtree}

-- ---- moved paths

then_equal : (o : Ordering) → ordering_then o Equal ≡ o
then_equal Less = refl
then_equal Equal = refl
then_equal Greater = refl

name_itself : (x : List ℕ) → slice_cmp nat_cmp x x ≡ Equal
name_itself x = sym (then_equal (slice_cmp nat_cmp x x)) ∙ (equal_is (x ∷ []) (x ∷ [])).1 refl

same_prefix : (p a b : Node) → path_cmp (p ++ a) (p ++ b) ≡ path_cmp a b
same_prefix [] a b = refl
same_prefix (x ∷ p) a b = ap (λ o. ordering_then o (path_cmp (p ++ a) (p ++ b))) (name_itself x) ∙ same_prefix p a b

drop_prefix : (p rest : Node) → drop (length p) (p ++ rest) ≡ rest
drop_prefix [] rest = refl
drop_prefix (x ∷ p) rest = drop_prefix p rest

-- what the node has after p
pub rest_in : (n p : Node) → is_in n p ≡ true → (rest : Node) × (n ≡ p ++ rest)
rest_in n [] h = go n (from_or (same_path n []) (is_under n []) h)
  where
    go : (n : Node) → (same_path n [] ≡ true) ⊎ (is_under n [] ≡ true) → (rest : Node) × (n ≡ rest)
    go n h = (n, refl)
rest_in n (x ∷ p) h = go (from_or (same_path n (x ∷ p)) (is_under n (x ∷ p)) h)
  where
    go : (same_path n (x ∷ p) ≡ true) ⊎ (is_under n (x ∷ p) ≡ true) → (rest : Node) × (n ≡ (x ∷ p) ++ rest)
    go (inl s) = ([], same_path_is n (x ∷ p) s ∙ sym (append-nil (x ∷ p)))
    go (inr u) = let r = (under_is n (x ∷ p) (omega arith)).0 u in (r.0, r.2)

moved_is : (n p q rest : Node) → n ≡ p ++ rest → moved n p q ≡ q ++ rest
moved_is n p q rest e = ap (λ l. q ++ drop (length p) l) e ∙ ap (λ l. q ++ l) (drop_prefix p rest)

moved_before : (a b p q : Node) → is_in a p ≡ true → is_in b p ≡ true → comes_before a b ≡ true → comes_before (moved a p q) (moved b p q) ≡ true
unfolding comes_before
moved_before a b p q ia ib low =
    let ra = rest_in a p ia in
    let rb = rest_in b p ib in
    ap is_lt ((λ i. path_cmp (moved_is a p q ra.0 ra.1 i) (moved_is b p q rb.0 rb.1 i)) ∙ same_prefix q ra.0 rb.0 ∙ sym (same_prefix p ra.0 rb.0) ∙ sym (λ i. path_cmp (ra.1 i) (rb.1 i))) ∙ low

moved_one : (a b p q : Node) → is_in a p ≡ true → is_in b p ≡ true → moved a p q ≡ moved b p q → a ≡ b
moved_one a b p q ia ib e =
    let ra = rest_in a p ia in
    let rb = rest_in b p ib in
    let same : q ++ ra.0 ≡ q ++ rb.0 = sym (moved_is a p q ra.0 ra.1) ∙ e ∙ moved_is b p q rb.0 rb.1 in
    ra.1 ∙ ap (λ l. p ++ l) (sym (drop_prefix q ra.0) ∙ ap (drop (length q)) same ∙ drop_prefix q rb.0) ∙ sym rb.1

apart_before : (a b : Node) → comes_before a b ≡ true → same_path a b ≡ false
apart_before a b low = go (same_path a b) refl
  where
    go : (s : Bool) → same_path a b ≡ s → s ≡ false
    go true s = absurd (not_both (comes_before a b) low (subst (λ x. comes_before a x ≡ false) (same_path_is a b s) (before_irrefl a)))
    go false s = refl

under_or_same : (q rest : Node) → 0 < length q → (q ++ rest ≡ q) ⊎ (is_under (q ++ rest) q ≡ true)
under_or_same q [] some = inl (append-nil q)
under_or_same q (x ∷ rest) some = inr ((under_is (q ++ x ∷ rest) q some).1 (x ∷ rest, omega arith, refl))

module _ (m : Store) (tree : IsTreeMap m) (p q : Node) (some : 0 < length q) (free : is_empty (at m q) ≡ true) (above : (r : Node) → parent q ≡ Some r → is_dir (at m r) ≡ true) where
  abbrev f : Node → Change
  f = copied (at m) p q

  abbrev ns : List Node
  ns = subtree (nodes_of m) p

  -- nothing is at a moved path
  pub nothing_there : (n : Node) → has ns n ≡ true → is_empty (at m (moved n p q)) ≡ true
  nothing_there n h =
      let r = rest_in n p (in_subtree m tree p n h).1 in
      subst (λ x. is_empty (at m x) ≡ true) (sym (moved_is n p q r.0 r.1)) (go (q ++ r.0) (under_or_same q r.0 some))
    where
      go : (x : Node) → (x ≡ q) ⊎ (is_under x q ≡ true) → is_empty (at m x) ≡ true
      go x (inl e) = subst (λ y. is_empty (at m y) ≡ true) (sym e) free
      go x (inr u) = other (is_empty (at m x)) refl
        where
          other : (b : Bool) → is_empty (at m x) ≡ b → b ≡ true
          other true e = refl
          other false e = absurd (not_both (is_empty (at m q)) free (full_from_dir (at m q) (tree_above (at m) tree.tree x q u e)))

  not_down : (n : Node) → has ns n ≡ true → is_down (f n) ≡ false
  not_down n h = ap (λ b. b || false) (in_subtree m tree p n h).0

  goes : (a b : Node) → has ns a ≡ true → has ns b ≡ true → comes_before a b ≡ true → Goes f a b
  goes a b i j low =
      let before = moved_before a b p q (in_subtree m tree p a i).1 (in_subtree m tree p b j).1 low in (
        (λ k. if not_down a i k then (if is_down (f b) then comes_before (f b).node (f a).node else true) else (if not_down b j k then false else comes_before (f a).node (f b).node)) ∙ before,
        apart_before (moved a p q) (moved b p q) before,
      )

  pub copies_canonical : (is_canonical (map f ns) ≡ true) × (one_each (map f ns) ≡ true)
  copies_canonical = canonical_pairs f ns (pairs_from (Goes f) ns goes (subtree_ascends m p))

  copied_at : (n : Node) → has ns n ≡ true → command_at (map f ns) (moved n p q) ≡ Some (f n)
  copied_at n h = at_member f ns n h (λ k i e. moved_one k n p q (in_subtree m tree p k i).1 (in_subtree m tree p n h).1 e)

  -- a directory of the tree is not at a moved path
  stays : (r : Node) → is_dir (at m r) ≡ true → after (map f ns) (at m) r ≡ at m r
  stays r dir = go (command_at (map f ns) r) refl
    where
      go : (o : Option Change) → command_at (map f ns) r ≡ o → new_or (command_at (map f ns) r) (at m r) ≡ at m r
      go None e = ap (λ o. new_or o (at m r)) e
      go (Some c) e = let k = at_some f ns r c e in absurd (not_both (is_empty (at m r)) (ap (λ x. is_empty (at m x)) k.2 ∙ nothing_there k.0 k.1) (full_from_dir (at m r) dir))

  parent_moved : (k up r : Node) → has ns k ≡ true → parent k ≡ Some up → is_in up p ≡ true → parent (moved k p q) ≡ Some r → r ≡ moved up p q
  parent_moved k up r h e i g =
      let a = rest_in up p i in
      let b = (parent_is k up).0 e in
      let whole : k ≡ p ++ (a.0 ++ b.0 ∷ []) = b.2 ∙ ap (λ l. l ++ b.0 ∷ []) a.1 ∙ append_assoc p a.0 (b.0 ∷ []) in
      let target : moved k p q ≡ (q ++ a.0) ++ b.0 ∷ [] = moved_is k p q (a.0 ++ b.0 ∷ []) whole ∙ sym (append_assoc q a.0 (b.0 ∷ [])) in
      let longer : 0 < length (q ++ a.0) = long q a.0 some in
      same (sym g ∙ (parent_is (moved k p q) (q ++ a.0)).1 (b.0, longer, target)) ∙ sym (moved_is up p q a.0 a.1)
    where
      long : (q a : Node) → 0 < length q → 0 < length (q ++ a)
      long q a h = let l = length-append q a in omega (arith, l)

      same : {x y : Node} → ◌≡◌ {A = Option Node} (Some x) (Some y) → x ≡ y
      same e = cc

  tree_made : (r n k : Node) → has ns k ≡ true → n ≡ moved k p q → parent n ≡ Some r → is_dir (after (map f ns) (at m) r) ≡ true
  tree_made r n k h e up = go (from_or (same_path k p) (is_under k p) (in_subtree m tree p k h).1)
    where
      at_root : k ≡ p → moved k p q ≡ q
      at_root s = moved_is k p q [] (s ∙ sym (append-nil p)) ∙ append-nil q

      go : (same_path k p ≡ true) ⊎ (is_under k p ≡ true) → is_dir (after (map f ns) (at m) r) ≡ true
      go (inl s) = let dir = above r (ap parent (sym (e ∙ at_root (same_path_is k p s))) ∙ up) in ap is_dir (stays r dir) ∙ dir
      go (inr u) = below (under_split k p u)
        where
          below : HasParentUnder k p → is_dir (after (map f ns) (at m) r) ≡ true
          below w =
              let full = (in_subtree m tree p k h).0 in
              let dir = tree.tree w.up k w.is full in
              let inside : is_in w.up p ≡ true = way w.way in
              let member = to_subtree m tree p w.up (full_from_dir (at m w.up) dir) inside in
              let here : r ≡ moved w.up p q = parent_moved k w.up r h w.is inside (sym (ap parent e) ∙ up) in
              ap (λ x. is_dir (after (map f ns) (at m) x)) here ∙ ap (λ o. is_dir (new_or o (at m (moved w.up p q)))) (copied_at w.up member) ∙ dir
            where
              way : (w.up ≡ p) ⊎ (is_under w.up p ≡ true) → is_in w.up p ≡ true
              way (inl s) = or_left (same_path w.up p) (is_under w.up p) (same_path_at w.up p s)
              way (inr v) = or_right (same_path w.up p) (is_under w.up p) v

  pub copies_fit : Fits (at m) (map f ns)
  copies_fit = record {
    one = copies_canonical.1;
    olds = λ n c e. let k = at_some f ns n c e in empty_is (at m n) (ap (λ x. is_empty (at m x)) k.2 ∙ nothing_there k.0 k.1) ∙ ap (λ d. d.old) (sym k.3);
    tree = λ r n up full. go r n up (command_at (map f ns) n) refl full;
  }
    where
      go : (r n : Node) → parent n ≡ Some r → (o : Option Change) → command_at (map f ns) n ≡ o → is_empty (after (map f ns) (at m) n) ≡ false → is_dir (after (map f ns) (at m) r) ≡ true
      go r n up None e full = let dir = tree.tree r n up (sym (ap (λ o. is_empty (new_or o (at m n))) e) ∙ full) in ap is_dir (stays r dir) ∙ dir
      go r n up (Some c) e full = let k = at_some f ns n c e in tree_made r n k.0 k.1 k.2 up

  pub copies_taken : Takes (at m) (map f ns)
  copies_taken = fits_takes (at m) (map f ns) tree.tree copies_canonical.0 copies_fit

  pub copies_single : AllByRecursion IsSingle (map f ns)
  copies_single = go ns (λ n h. (in_subtree m tree p n h).0)
    where
      go : (l : List Node) → ((n : Node) → has l n ≡ true → is_empty (at m n) ≡ false) → AllByRecursion IsSingle (map f l)
      go [] h = tt
      go (x ∷ l) h = (
        record {
          full = λ e. absurd (not_both (is_empty (at m x)) e (h x (or_left (same_path x x) (has l x) (same_path_refl x))));
          plain = λ e g. absurd (not_both true refl g);
          kept = λ e g. absurd (not_both false e refl);
        },
        go l (λ n i. h n (or_right (same_path n x) (has l n) i)),
      )
