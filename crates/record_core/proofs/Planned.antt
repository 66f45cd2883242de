-- The steps of an operation that no test refuses can be recorded one after another.
use Rattle.std.proofs.Common.{◌≡◌, ◌⊎◌, inl, inr, ℕ, ◌<◌, Bool, true, false, not, ◌&&◌, List, [], ◌∷◌, ◌++◌, length, drop, Option, Some, None, refl, sym, ap, subst, ◌∙◌, arith, append-nil}
use Rattle.std.specs.Prelude.{map, if◌then◌else◌}
use Rattle.std.specs.FinMap as finite
use Rattle.sync_path.specs.Paths.{Node, is_under, moved, parent, same_path}
use Rattle.sync_path.proofs.CallerLemmas.{parent_apart, same_path_is, same_path_refl, under_is}
use Rattle.sync_command.specs.declared.values.Value.{Value}
use Rattle.sync_command.specs.declared.values.Value.TheVariants.{Empty, Dir, File}
use Rattle.sync_command.specs.Values.{is_dir, is_empty, same_value}
use Rattle.sync_command.specs.Changes.{Change}
use Rattle.sync_command.specs.Maps.{IsTreeMap, Store, at, stored}
use Rattle.sync_command.specs.Trees.{Holding, IsTree, Takes, command_at, new_or, put, result_of}
use Rattle.sync_command.proofs.CallerLemmas.{at-stored, full_from_dir, kept_trees, put_apart, result_once, tree_above}
use Rattle.record_core.specs.declared.faults.Why.{Why}
use Rattle.record_core.specs.declared.ops.Op.{Op}
use Rattle.record_core.specs.declared.ops.Op.TheVariants as op
use Rattle.record_core.specs.declared.steps.Step.{Step}
use Rattle.record_core.specs.declared.steps.Step.TheVariants.{Give, Make, Clear}
use Rattle.record_core.specs.Changing.{CanRecord}
use Rattle.record_core.specs.Meanings.{backwards, commands_of, copied, copy_tests, emptied, first_that_applies, has_child, is_child_of, is_dir_or_none, is_too_deep, lacks_parent, nodes_of, subtree, tests, to_value}
use Rattle.record_core.specs.Plans.{HasNames, clear_steps, make_steps, steps_of}
use Rattle.record_core.specs.Steps.{AreSteady, CanWalk, change_of, changes_of}
use Rattle.record_core.proofs.Ascending.{has, keys_full, not_both, one_list, or_left, or_right}
use Rattle.record_core.proofs.Copies.{copies_canonical, copies_single, copies_taken, nothing_there, rest_in}
use Rattle.record_core.proofs.Meant.{IsSingle, at_some, can_record, empties_single, empties_taken, has_backwards, single_append, takes_append}
use Rattle.record_core.proofs.SubtreeLemmas.{any_at, has_subtree, in_subtree, is_child, is_in, subtree_ascends}

-- ---- tests that do not apply

pub none_first : (b : Bool) (why : Why) (o : Option Why) → (if b then Some why else o) ≡ None → (b ≡ false) × (o ≡ None)
none_first true why o e = cc
none_first false why o e = (refl, e)

turn : (b : Bool) → not b ≡ false → b ≡ true
turn true e = refl
turn false e = cc

parent_dir : (m : Store) (n : Node) → lacks_parent (nodes_of m) n ≡ false → (r : Node) → parent n ≡ Some r → is_dir (at m r) ≡ true
parent_dir m n e r up = turn (is_dir (at m r)) (ap (λ o. not (is_dir_or_none (at m) o)) (sym up) ∙ e)

childless : (m : Store) → IsTreeMap m → (n : Node) → has_child (nodes_of m) n ≡ false → (c : Node) → parent c ≡ Some n → is_empty (at m c) ≡ true
childless m tree n e c up = go (is_empty (at m c)) refl
  where
    go : (b : Bool) → is_empty (at m c) ≡ b → b ≡ true
    go true f = refl
    go false f = absurd (not_both (has_child (nodes_of m) n) (any_at (λ k. is_child_of n (parent k)) (finite.keys m) c (keys_full m tree c ∙ ap not f) (is_child n c up)) e)

-- ---- one command

put_tree : (t : Holding) → IsTree t → (n : Node) (v : Value) → (is_empty v ≡ false → (r : Node) → parent n ≡ Some r → is_dir (t r) ≡ true) → (is_dir v ≡ false → (c : Node) → parent c ≡ Some n → is_empty (t c) ≡ true) → IsTree (put t n v)
put_tree t tree n v below alone q c up full = go (same_path c n) refl full
  where
    go : (s : Bool) → same_path c n ≡ s → is_empty (if s then v else t c) ≡ false → is_dir (put t n v q) ≡ true
    go true s f =
        let up_n : parent n ≡ Some q = ap parent (sym (same_path_is c n s)) ∙ up in
        ap is_dir (put_apart t n v q (parent_apart q n up_n)) ∙ below f q up_n
    go false s f = other (same_path q n) refl
      where
        other : (r : Bool) → same_path q n ≡ r → is_dir (if r then v else t q) ≡ true
        other true r = dir (is_dir v) refl
          where
            dir : (d : Bool) → is_dir v ≡ d → d ≡ true
            dir true e = refl
            dir false e = absurd (not_both (is_empty (t c)) (alone e c (up ∙ ap (λ x. Some x) (same_path_is q n r))) f)
        other false r = tree q c up f

-- the one command from the value held to another, or none
one_step : (m : Store) → IsTreeMap m → (n : Node) (v : Value) → IsTree (put (at m) n v) → (same_value (at m n) v ≡ false → IsSingle (record { node = n; old = at m n; new = v })) → CanWalk m (map Give (to_value (nodes_of m) n v))
one_step m tree n v put_is single = go (same_value (at m n) v) refl
  where
    go : (s : Bool) → same_value (at m n) v ≡ s → CanWalk m (map Give (if s then [] else record { node = n; old = at m n; new = v } ∷ []))
    go true s = record { tree = tree; can = tt; steady = tt }
    go false s = record {
      tree = tree;
      can = can_record (at m) (record { node = n; old = at m n; new = v } ∷ []) (record { old = refl; tree = put_is }, tt) (single s, tt);
      steady = (tt, tt, tt);
    }

gives : (t : Holding) (cs : List Change) → changes_of t (map Give cs) ≡ cs
gives t [] = refl
gives t (c ∷ cs) = ap (λ l. c ∷ l) (gives t cs)

no_children : (m : Store) → IsTreeMap m → (n : Node) → is_dir (at m n) ≡ false → (c : Node) → parent c ≡ Some n → is_empty (at m c) ≡ true
no_children m tree n apart c up = go (is_empty (at m c)) refl
  where
    go : (b : Bool) → is_empty (at m c) ≡ b → b ≡ true
    go true e = refl
    go false e = absurd (not_both (is_dir (at m n)) (tree.tree n c up e) apart)

empty_no_dir : (v : Value) → is_empty v ≡ true → is_dir v ≡ false
empty_no_dir Empty e = refl
empty_no_dir (Dir label) e = cc
empty_no_dir (File bytes) e = cc

-- ---- many steps

clears : (t : Holding) (ns : List Node) → changes_of t (map Clear ns) ≡ map (emptied t) ns
clears t [] = refl
clears t (n ∷ ns) = ap (λ l. emptied t n ∷ l) (clears t ns)

makes : (t : Holding) (p q : Node) (ns : List Node) → changes_of t (map (λ n. Make n (moved n p q)) ns) ≡ map (copied t p q) ns
makes t p q [] = refl
makes t p q (n ∷ ns) = ap (λ l. copied t p q n ∷ l) (makes t p q ns)

steady_clears : (t u : Holding) (ns : List Node) → ((n : Node) → has ns n ≡ true → is_empty (t n) ≡ false) → Takes u (map (emptied t) ns) → AreSteady t u (map Clear ns)
steady_clears t u [] full takes = tt
steady_clears t u (n ∷ ns) full takes = (
  full n (or_left (same_path n n) (has ns n) (same_path_refl n)),
  takes.0.old,
  steady_clears t (put u n Empty) ns (λ k h. full k (or_right (same_path k n) (has ns k) h)) takes.1,
)

steady_makes : (t u : Holding) (p q : Node) (ns : List Node) → ((n : Node) → has ns n ≡ true → (is_empty (t n) ≡ false) × (is_empty (t (moved n p q)) ≡ true)) → ((x : Node) → is_empty (t x) ≡ false → u x ≡ t x)
    → AreSteady t u (map (λ n. Make n (moved n p q)) ns)
steady_makes t u p q [] full agree = tt
steady_makes t u p q (n ∷ ns) full agree =
    let here = full n (or_left (same_path n n) (has ns n) (same_path_refl n)) in (
      here.0,
      agree n here.0,
      steady_makes t (put u (moved n p q) (t n)) p q ns (λ k h. full k (or_right (same_path k n) (has ns k) h)) (λ x f. put_apart u (moved n p q) (t n) x (apart x (moved n p q) f here.1) ∙ agree x f),
    )
  where
    apart : (x y : Node) → is_empty (t x) ≡ false → is_empty (t y) ≡ true → same_path x y ≡ false
    apart x y f e = go (same_path x y) refl
      where
        go : (s : Bool) → same_path x y ≡ s → s ≡ false
        go true s = absurd (not_both (is_empty (t x)) (ap (λ z. is_empty (t z)) (same_path_is x y s) ∙ e) f)
        go false s = refl

steady_append : (t u : Holding) (a b : List Step) → AreSteady t u a → AreSteady t (result_of u (changes_of t a)) b → AreSteady t u (a ++ b)
steady_append t u [] b f g = g
steady_append t u (s ∷ a) b f g = (f.0, f.1, steady_append t (put u (change_of t s).node (change_of t s).new) a b f.2 g)

changes_append : (t : Holding) (a b : List Step) → changes_of t (a ++ b) ≡ changes_of t a ++ changes_of t b
changes_append t [] b = refl
changes_append t (s ∷ a) b = ap (λ l. change_of t s ∷ l) (changes_append t a b)

-- ---- a subtree that is moved

-- of two prefixes of one path one is a prefix of the other
prefixes : (p q a b : Node) → p ++ a ≡ q ++ b → ((c : Node) × (q ≡ p ++ c)) ⊎ ((c : Node) × (p ≡ q ++ c))
prefixes [] q a b e = inl (q, refl)
prefixes (x ∷ p) [] a b e = inr (x ∷ p, refl)
prefixes (x ∷ p) (y ∷ q) a b e = go (prefixes p q a b rest)
  where
    head : x ≡ y
    head = cc

    rest : p ++ a ≡ q ++ b
    rest = cc

    go : ((c : Node) × (q ≡ p ++ c)) ⊎ ((c : Node) × (p ≡ q ++ c)) → ((c : Node) × (y ∷ q ≡ x ∷ (p ++ c))) ⊎ ((c : Node) × (x ∷ p ≡ y ∷ (q ++ c)))
    go (inl (c, h)) = inl (c, (λ i. sym head i ∷ h i))
    go (inr (c, h)) = inr (c, (λ i. head i ∷ h i))

module _ (m : Store) (tree : IsTreeMap m) (p q : Node) (some_p : 0 < length p) (some : 0 < length q) (full : is_empty (at m p) ≡ false) (inside : is_under q p ≡ false) (free : is_empty (at m q) ≡ true) (above : (r : Node) → parent q ≡ Some r → is_dir (at m r) ≡ true) where
  abbrev ns : List Node
  ns = subtree (nodes_of m) p

  abbrev copies : List Change
  copies = map (copied (at m) p q) ns

  abbrev later : Store
  later = stored m copies

  later_tree : IsTreeMap later
  later_tree = kept_trees m copies tree (copies_taken m tree p q some free above)

  -- no moved path is in the subtree
  not_inside : (k : Node) → has ns k ≡ true → is_in (moved k p q) p ≡ true → ⊥
  not_inside k h i =
      let r = rest_in (moved k p q) p i in
      go (prefixes p q r.0 (drop (length p) k) (sym r.1))
    where
      go : ((c : Node) × (q ≡ p ++ c)) ⊎ ((c : Node) × (p ≡ q ++ c)) → ⊥
      go (inl ([], e)) = not_both (is_empty (at m p)) (ap (λ x. is_empty (at m x)) (sym (e ∙ append-nil p)) ∙ free) full
      go (inl (x ∷ c, e)) = not_both (is_under q p) ((under_is q p some_p).1 (x ∷ c, omega arith, e)) inside
      go (inr ([], e)) = not_both (is_empty (at m p)) (ap (λ x. is_empty (at m x)) (e ∙ append-nil q) ∙ free) full
      go (inr (x ∷ c, e)) = not_both (is_empty (at m q)) free (full_from_dir (at m q) (tree_above (at m) tree.tree p q ((under_is p q some).1 (x ∷ c, omega arith, e)) full))

  later_at : (n : Node) → is_in n p ≡ true → at later n ≡ at m n
  later_at n i = ap (λ t. t n) (at-stored m copies) ∙ result_once (at m) copies (copies_canonical m tree p q some free above).1 n ∙ go (command_at copies n) refl
    where
      go : (o : Option Change) → command_at copies n ≡ o → new_or (command_at copies n) (at m n) ≡ at m n
      go None e = ap (λ o. new_or o (at m n)) e
      go (Some c) e = let k = at_some (copied (at m) p q) ns n c e in absurd (not_inside k.0 k.1 (sym (ap (λ x. is_in x p) k.2) ∙ i))

  same_subtree : subtree (nodes_of later) p ≡ ns
  same_subtree = one_list (subtree (nodes_of later) p) ns (subtree_ascends later p) (subtree_ascends m p) (λ n. has_subtree later later_tree p n ∙ go n (is_in n p) refl ∙ sym (has_subtree m tree p n))
    where
      go : (n : Node) (b : Bool) → is_in n p ≡ b → (not (is_empty (at later n)) && is_in n p) ≡ (not (is_empty (at m n)) && is_in n p)
      go n true e = ap (λ v. not (is_empty v) && is_in n p) (later_at n e)
      go n false e = ap (λ b. not (is_empty (at later n)) && b) e ∙ both_false (not (is_empty (at later n))) ∙ sym (ap (λ b. not (is_empty (at m n)) && b) e ∙ both_false (not (is_empty (at m n))))
        where
          both_false : (b : Bool) → (b && false) ≡ false
          both_false true = refl
          both_false false = refl

  same_emptied : (l : List Node) → ((n : Node) → has l n ≡ true → is_in n p ≡ true) → map (emptied (at later)) l ≡ map (emptied (at m)) l
  same_emptied [] f = refl
  same_emptied (x ∷ l) f = (λ i. record { node = x; old = later_at x (f x (or_left (same_path x x) (has l x) (same_path_refl x))) i; new = Empty } ∷ same_emptied l (λ n h. f n (or_right (same_path n x) (has l n) h)) i)

  pub moved_taken : Takes (result_of (at m) copies) (map (emptied (at m)) (backwards ns))
  moved_taken = subst (λ t. Takes t (map (emptied (at m)) (backwards ns))) (at-stored m copies)
      (subst (Takes (at later)) (same_emptied (backwards ns) (λ n h. (in_subtree m tree p n (sym (has_backwards ns n) ∙ h)).1))
      (subst (λ l. Takes (at later) (map (emptied (at later)) (backwards l))) same_subtree (empties_taken later later_tree p)))

  makes_steady : AreSteady (at m) (at m) (make_steps (nodes_of m) p q)
  makes_steady = steady_makes (at m) (at m) p q ns (λ n h. ((in_subtree m tree p n h).0, nothing_there m tree p q some free above n h)) (λ x f. refl)

  pub can_move : CanWalk m (make_steps (nodes_of m) p q ++ clear_steps (nodes_of m) p)
  can_move = record {
    tree = tree;
    can = subst (CanRecord (at m)) (sym whole)
        (can_record (at m) (copies ++ map (emptied (at m)) (backwards ns)) (takes_append (at m) copies (map (emptied (at m)) (backwards ns)) (copies_taken m tree p q some free above) moved_taken)
        (single_append copies (map (emptied (at m)) (backwards ns)) (copies_single m tree p q some free above) (empties_single m tree p)));
    steady = steady_append (at m) (at m) (make_steps (nodes_of m) p q) (clear_steps (nodes_of m) p) makes_steady
        (subst (λ cs. AreSteady (at m) (result_of (at m) cs) (clear_steps (nodes_of m) p)) (sym (makes (at m) p q ns))
        (steady_clears (at m) (result_of (at m) copies) (backwards ns) (λ n h. (in_subtree m tree p n (sym (has_backwards ns n) ∙ h)).0) moved_taken));
  }
    where
      whole : changes_of (at m) (make_steps (nodes_of m) p q ++ clear_steps (nodes_of m) p) ≡ copies ++ map (emptied (at m)) (backwards ns)
      whole = changes_append (at m) (make_steps (nodes_of m) p q) (clear_steps (nodes_of m) p) ∙ (λ i. makes (at m) p q ns i ++ clears (at m) (backwards ns) i)

pub can_copy : (m : Store) (tree : IsTreeMap m) (p q : Node) (some : 0 < length q) (free : is_empty (at m q) ≡ true) (above : (r : Node) → parent q ≡ Some r → is_dir (at m r) ≡ true) → CanWalk m (make_steps (nodes_of m) p q)
can_copy m tree p q some free above = record {
  tree = tree;
  can = subst (CanRecord (at m)) (sym (makes (at m) p q (subtree (nodes_of m) p))) (can_record (at m) (map (copied (at m) p q) (subtree (nodes_of m) p)) (copies_taken m tree p q some free above) (copies_single m tree p q some free above));
  steady = steady_makes (at m) (at m) p q (subtree (nodes_of m) p) (λ n h. ((in_subtree m tree p n h).0, nothing_there m tree p q some free above n h)) (λ x f. refl);
}

pub can_clear : (m : Store) (tree : IsTreeMap m) (p : Node) → CanWalk m (clear_steps (nodes_of m) p)
can_clear m tree p = record {
  tree = tree;
  can = subst (CanRecord (at m)) (sym (clears (at m) (backwards (subtree (nodes_of m) p)))) (can_record (at m) (map (emptied (at m)) (backwards (subtree (nodes_of m) p))) (empties_taken m tree p) (empties_single m tree p));
  steady = steady_clears (at m) (at m) (backwards (subtree (nodes_of m) p)) (λ n h. (in_subtree m tree p n (sym (has_backwards (subtree (nodes_of m) p) n) ∙ h)).0) (empties_taken m tree p);
}

-- ---- each operation

pub steps_commands : (m : Store) (o : Op) → changes_of (at m) (steps_of (nodes_of m) o) ≡ commands_of (nodes_of m) o
steps_commands m (op.Mkdir p) = gives (at m) (to_value (nodes_of m) p (Dir []))
steps_commands m (op.Put p bytes) = gives (at m) (to_value (nodes_of m) p (File bytes))
steps_commands m (op.Del p) = gives (at m) (to_value (nodes_of m) p Empty)
steps_commands m (op.Label p label) = gives (at m) (to_value (nodes_of m) p (Dir label))
steps_commands m (op.Deltree p) = clears (at m) (backwards (subtree (nodes_of m) p))
steps_commands m (op.Copy p q) = makes (at m) p q (subtree (nodes_of m) p)
steps_commands m (op.Move p q) = changes_append (at m) (make_steps (nodes_of m) p q) (clear_steps (nodes_of m) p) ∙ (λ i. makes (at m) p q (subtree (nodes_of m) p) i ++ clears (at m) (backwards (subtree (nodes_of m) p)) i)

-- the tree that `mkdir` leaves
pub mkdir_tree : (m : Store) → IsTreeMap m → (p : Node) → first_that_applies (tests (nodes_of m) (op.Mkdir p)) ≡ None → IsTree (put (at m) p (Dir []))
mkdir_tree m tree p e =
    let a = none_first (not (is_empty (at m p))) _ _ e in
    let b = none_first (lacks_parent (nodes_of m) p) _ _ a.1 in
    put_tree (at m) tree.tree p (Dir []) (λ f. parent_dir m p b.0) (λ f. absurd (not_both true refl f))

-- the tree that `put` leaves
pub file_tree : (m : Store) → IsTreeMap m → (p : Node) (bytes : List ℕ) → first_that_applies (tests (nodes_of m) (op.Put p bytes)) ≡ None → IsTree (put (at m) p (File bytes))
file_tree m tree p bytes e =
    let a = none_first (is_dir (at m p)) _ _ e in
    let b = none_first (lacks_parent (nodes_of m) p) _ _ a.1 in
    put_tree (at m) tree.tree p (File bytes) (λ f. parent_dir m p b.0) (λ f. no_children m tree p a.0)

-- the tree that `del` leaves
pub del_tree : (m : Store) → IsTreeMap m → (p : Node) → first_that_applies (tests (nodes_of m) (op.Del p)) ≡ None → IsTree (put (at m) p Empty)
del_tree m tree p e =
    let a = none_first (is_empty (at m p)) _ _ e in
    let b = none_first (has_child (nodes_of m) p) _ _ a.1 in
    put_tree (at m) tree.tree p Empty (λ f. absurd (not_both true refl f)) (λ f. childless m tree p b.0)

-- the tree that `label` leaves
pub label_tree : (m : Store) → IsTreeMap m → (p : Node) (label : List ℕ) → first_that_applies (tests (nodes_of m) (op.Label p label)) ≡ None → IsTree (put (at m) p (Dir label))
label_tree m tree p label e =
    let a = none_first (is_empty (at m p)) _ _ e in
    put_tree (at m) tree.tree p (Dir label) (λ f r up. tree.tree r p up a.0) (λ f. absurd (not_both true refl f))

-- no test of `copy` and `move` applies
pub record AreFree (m : Store) (p q : Node) : Type 0 where
  pub full : is_empty (at m p) ≡ false
  pub outside : is_under q p ≡ false
  pub free : is_empty (at m q) ≡ true
  pub above : (r : Node) → parent q ≡ Some r → is_dir (at m r) ≡ true
  pub shallow : is_too_deep (nodes_of m) p q ≡ false

pub are_free : (m : Store) (p q : Node) → first_that_applies (copy_tests (nodes_of m) p q) ≡ None → AreFree m p q
are_free m p q e =
    let a = none_first (is_empty (at m p)) _ _ e in
    let b = none_first (is_under q p) _ _ a.1 in
    let d = none_first (not (is_empty (at m q))) _ _ b.1 in
    let f = none_first (lacks_parent (nodes_of m) q) _ _ d.1 in
    let g = none_first (is_too_deep (nodes_of m) p q) _ _ f.1 in
    record { full = a.0; outside = b.0; free = turn (is_empty (at m q)) d.0; above = parent_dir m q f.0; shallow = g.0 }

pub can_walk : (m : Store) → IsTreeMap m → (o : Op) → HasNames o → first_that_applies (tests (nodes_of m) o) ≡ None → CanWalk m (steps_of (nodes_of m) o)
can_walk m tree (op.Mkdir p) names e =
    let a = none_first (not (is_empty (at m p))) _ _ e in
    let none = turn (is_empty (at m p)) a.0 in
    one_step m tree p (Dir []) (mkdir_tree m tree p e)
    (λ s. record { full = λ f. absurd (not_both false f refl); plain = λ f g. absurd (not_both (is_empty (at m p)) none g); kept = λ f g. refl })
can_walk m tree (op.Put p bytes) names e =
    let a = none_first (is_dir (at m p)) _ _ e in
    one_step m tree p (File bytes) (file_tree m tree p bytes e)
    (λ s. record { full = λ f. absurd (not_both false f refl); plain = λ f g. absurd (not_both false f refl); kept = λ f g. absurd (not_both (is_dir (at m p)) f a.0) })
can_walk m tree (op.Del p) names e =
    let a = none_first (is_empty (at m p)) _ _ e in
    one_step m tree p Empty (del_tree m tree p e)
    (λ s. record { full = λ f. a.0; plain = λ f g. absurd (not_both false f refl); kept = λ f g. absurd (not_both true refl g) })
can_walk m tree (op.Label p label) names e =
    let a = none_first (is_empty (at m p)) _ _ e in
    let b = none_first (not (is_dir (at m p))) _ _ a.1 in
    let dir = turn (is_dir (at m p)) b.0 in
    one_step m tree p (Dir label) (label_tree m tree p label e)
    (λ s. record { full = λ f. absurd (not_both false f refl); plain = λ f g. dir; kept = λ f g. refl })
can_walk m tree (op.Deltree p) names e = can_clear m tree p
can_walk m tree (op.Copy p q) names e =
    let free = are_free m p q e in
    can_copy m tree p q names.1 free.free free.above
can_walk m tree (op.Move p q) names e =
    let free = are_free m p q e in
    can_move m tree p q names.0 names.1 free.full free.outside free.free free.above
