-- The subtrees of a tree.
use Rattle.std.proofs.Common.{◌≡◌, ◌⊎◌, inl, inr, ℕ, zero, suc, ◌+◌, ◌<◌, ◌≤◌, Bool, true, false, not, ◌&&◌, ◌||◌, List, [], ◌∷◌, ◌++◌, length, length-append, Option, Some, None, refl, sym, ap, subst, ◌∙◌, arith}
use Rattle.std.specs.List.{Contains, flat_map, list_any}
use Rattle.std.specs.FinMap as finite
use Rattle.sync_path.specs.Paths.{Node, comes_before, is_under, parent, same_path}
use Rattle.sync_path.proofs.CallerLemmas.{before_total, before_trans, contiguous, parent_before, parent_is, parent_shorter, same_path_is, same_path_refl, under_after, under_down, under_is, under_parent, under_shorter, under_split, under_up, HasParentUnder}
use Rattle.sync_command.specs.Maps.{IsTreeMap, Store, at}
use Rattle.sync_command.specs.Values.{is_dir, is_empty}
use Rattle.sync_command.proofs.CallerLemmas.{full_from_dir}
use Rattle.tree_port.specs.Conditions.{AreBelow, AreChildren}
use Rattle.record_core.specs.Meanings.{is_child_of, has_child, nodes_of, subtree}
use Rattle.record_core.proofs.Ascending.{Ascends, after_from, after_has, ascends_append, ascends_filter, ascends_places, from_or, has, has-append, has-filter, has_of, keys_ascend, keys_full, not_both, of_has, one_list, or_left, or_right, same_test}

-- the node is in the subtree
abbrev pub is_in : Node → Node → Bool
is_in n p = same_path n p || is_under n p

pub has_subtree : (m : Store) → IsTreeMap m → (p n : Node) → has (subtree (nodes_of m) p) n ≡ (not (is_empty (at m n)) && is_in n p)
has_subtree m tree p n = has-filter (λ k. is_in k p) (finite.keys m) n ∙ ap (λ b. b && is_in n p) (keys_full m tree n)

pub subtree_ascends : (m : Store) (p : Node) → Ascends (subtree (nodes_of m) p)
subtree_ascends m p = ascends_filter (λ k. is_in k p) (finite.keys m) (keys_ascend m)

full_is : (b : Bool) → not b ≡ true → b ≡ false
full_is true e = sym e
full_is false e = refl

is_full : (b : Bool) → b ≡ false → not b ≡ true
is_full b e = ap not e

both_of : (a b : Bool) → (a && b) ≡ true → (a ≡ true) × (b ≡ true)
both_of true b e = (refl, e)
both_of false b e = absurd (not_both false e refl)

and_of : (a b : Bool) → a ≡ true → b ≡ true → (a && b) ≡ true
and_of a b e f = ap (λ c. c && b) e ∙ f

-- a member of the subtree is full, and is the node or under it
pub in_subtree : (m : Store) → IsTreeMap m → (p n : Node) → has (subtree (nodes_of m) p) n ≡ true → (is_empty (at m n) ≡ false) × (is_in n p ≡ true)
in_subtree m tree p n h = let b = both_of _ _ (sym (has_subtree m tree p n) ∙ h) in (full_is (is_empty (at m n)) b.0, b.1)

pub to_subtree : (m : Store) → IsTreeMap m → (p n : Node) → is_empty (at m n) ≡ false → is_in n p ≡ true → has (subtree (nodes_of m) p) n ≡ true
to_subtree m tree p n full under = has_subtree m tree p n ∙ and_of _ _ (is_full (is_empty (at m n)) full) under

-- ---- children

-- the first of some tests that passes
pub any_of : (f : Node → Bool) (ns : List Node) → list_any f ns ≡ true → (c : Node) × (has ns c ≡ true) × (f c ≡ true)
any_of f [] h = absurd (not_both false h refl)
any_of f (x ∷ ns) h = go (any_of f ns) (from_or (f x) (list_any f ns) h)
  where
    go : (list_any f ns ≡ true → (c : Node) × (has ns c ≡ true) × (f c ≡ true)) → (f x ≡ true) ⊎ (list_any f ns ≡ true) → (c : Node) × (has (x ∷ ns) c ≡ true) × (f c ≡ true)
    go rec (inl e) = (x, or_left (same_path x x) (has ns x) (same_path_refl x), e)
    go rec (inr e) = let r = rec e in (r.0, or_right (same_path r.0 x) (has ns r.0) r.1, r.2)

pub any_at : (f : Node → Bool) (ns : List Node) (c : Node) → has ns c ≡ true → f c ≡ true → list_any f ns ≡ true
any_at f [] c h e = absurd (not_both false h refl)
any_at f (x ∷ ns) c h e = go (λ h. any_at f ns c h e) (from_or (same_path c x) (has ns c) h)
  where
    go : (has ns c ≡ true → list_any f ns ≡ true) → (same_path c x ≡ true) ⊎ (has ns c ≡ true) → list_any f (x ∷ ns) ≡ true
    go rec (inl s) = or_left (f x) (list_any f ns) (sym (ap f (same_path_is c x s)) ∙ e)
    go rec (inr h) = or_right (f x) (list_any f ns) (rec h)

pub has_flat : (g : Node → List Node) (ch : List Node) (n : Node) → has (flat_map g ch) n ≡ list_any (λ c. has (g c) n) ch
has_flat g [] n = refl
has_flat g (c ∷ ch) n = has-append (g c) (flat_map g ch) n ∙ ap (λ b. has (g c) n || b) (has_flat g ch n)

pub child_of : (p n : Node) → is_child_of p (parent n) ≡ true → parent n ≡ Some p
child_of p n h = go (parent n) h
  where
    go : (o : Option Node) → is_child_of p o ≡ true → o ≡ Some p
    go None h = absurd (not_both false h refl)
    go (Some q) h = ap (λ x. Some x) (same_path_is q p h)

pub is_child : (p n : Node) → parent n ≡ Some p → is_child_of p (parent n) ≡ true
is_child p n e = ap (is_child_of p) e ∙ same_path_refl p

-- whether the node has a child, by the list of its children
pub has_child_is : (m : Store) → IsTreeMap m → (p : Node) (found : List Node) → AreChildren (at m) (Some p) found → (b : Bool) → (b ≡ true → found ≡ []) → (found ≡ [] → b ≡ true) → not b ≡ has_child (nodes_of m) p
has_child_is m tree p found are b none is_none = same_test (not b) (has_child (nodes_of m) p) to from
  where
    to : not b ≡ true → has_child (nodes_of m) p ≡ true
    to h = go found refl
      where
        go : (l : List Node) → found ≡ l → has_child (nodes_of m) p ≡ true
        go [] e = absurd (not_both b (is_none e) (full_is b h))
        go (x ∷ l) e =
            let c = (are x).0 (subst (λ l. Contains l x) (sym e) (of_has (x ∷ l) x (or_left (same_path x x) (has l x) (same_path_refl x)))) in
            any_at (λ n. is_child_of p (parent n)) (finite.keys m) x (keys_full m tree x ∙ is_full (is_empty (at m x)) c.1) (is_child p x c.0)

    from : has_child (nodes_of m) p ≡ true → not b ≡ true
    from h =
        let c = any_of (λ n. is_child_of p (parent n)) (finite.keys m) h in
        let full = full_is (is_empty (at m c.0)) (sym (keys_full m tree c.0) ∙ c.1) in
        let there = (are c.0).1 (child_of p c.0 c.2, full) in
        go b (λ e. subst (λ l. Contains l c.0) (none e) there)
      where
        go : {x : Node} (b : Bool) → (b ≡ true → Contains [] x) → not b ≡ true
        go true f = let k = f refl in let low = k.1 in absurd (omega (arith, low))
        go false f = refl

-- what is no directory has no child
pub no_children : (m : Store) (p : Node) → IsTreeMap m → is_dir (at m p) ≡ false → AreChildren (at m) (Some p) []
no_children m p tree apart n = (λ h. let low = h.1 in absurd (omega (arith, low)), λ c. absurd (not_both (is_dir (at m p)) (tree.tree p n c.0 c.1) apart))

-- ---- a subtree by the subtrees of the children

same_length : (p c d : Node) → parent c ≡ Some p → parent d ≡ Some p → length c ≡ length d
same_length p c d ec ed =
    let x = (parent_is c p).0 ec in
    let y = (parent_is d p).0 ed in
    ap length x.2 ∙ size x.0 ∙ sym (ap length y.2 ∙ size y.0)
  where
    size : (name : List ℕ) → length (p ++ name ∷ []) ≡ length p + 1
    size name = length-append p (name ∷ [])

not_under : (p c d : Node) → parent c ≡ Some p → parent d ≡ Some p → is_under d c ≡ true → ⊥
not_under p c d ec ed u = let s = under_shorter d c u in let l = same_length p c d ec ed in omega (arith, s, l)

-- what is in the subtree of a child comes before each later child
before_later : (p c d x : Node) → parent c ≡ Some p → parent d ≡ Some p → comes_before c d ≡ true → is_in x c ≡ true → comes_before x d ≡ true
before_later p c d x ec ed low h = go (from_or (same_path x c) (is_under x c) h)
  where
    some : 0 < length c
    some = let s = parent_shorter p c ec in omega (arith, s)

    go : (same_path x c ≡ true) ⊎ (is_under x c ≡ true) → comes_before x d ≡ true
    go (inl s) = subst (λ y. comes_before y d ≡ true) (sym (same_path_is x c s)) low
    go (inr u) = other (same_path x d) refl (comes_before x d) refl
      where
        other : (s : Bool) → same_path x d ≡ s → (b : Bool) → comes_before x d ≡ b → b ≡ true
        other s e true f = refl
        other true e false f = absurd (not_under p c d ec ed (subst (λ y. is_under y c ≡ true) (same_path_is x d e) u))
        other false e false f = absurd (not_under p c d ec ed ((under_is d c some).1 (contiguous c d x ((under_is x c some).0 u) low (before_total x d e f))))

at_or_after : (d y : Node) → 0 < length d → is_in y d ≡ true → (y ≡ d) ⊎ (comes_before d y ≡ true)
at_or_after d y some h = go (from_or (same_path y d) (is_under y d) h)
  where
    go : (same_path y d ≡ true) ⊎ (is_under y d ≡ true) → (y ≡ d) ⊎ (comes_before d y ≡ true)
    go (inl s) = inl (same_path_is y d s)
    go (inr u) = inr (under_after y d ((under_is y d some).0 u))

abbrev AreChildrenOf : Node → List Node → Type 0
AreChildrenOf p ch = (c : Node) → has ch c ≡ true → parent c ≡ Some p

flat_ascends : (m : Store) → IsTreeMap m → (p : Node) (ch : List Node) → Ascends ch → AreChildrenOf p ch → Ascends (flat_map (subtree (nodes_of m)) ch)
flat_ascends m tree p [] h below = tt
flat_ascends m tree p (c ∷ ch) h below =
    ascends_append (subtree (nodes_of m) c) (flat_map (subtree (nodes_of m)) ch) (subtree_ascends m c) (flat_ascends m tree p ch h.1 (λ d g. below d (or_right (same_path d c) (has ch d) g)))
    (λ x y hx hy.
    let d = any_of (λ c. has (subtree (nodes_of m) c) y) ch (sym (has_flat (subtree (nodes_of m)) ch y) ∙ hy) in
    let ed = below d.0 (or_right (same_path d.0 c) (has ch d.0) d.1) in
    let ec = below c (or_left (same_path c c) (has ch c) (same_path_refl c)) in
    let low = before_later p c d.0 x ec ed (after_has c ch d.0 h.0 d.1) (in_subtree m tree c x hx).1 in
    later x y d.0 low (at_or_after d.0 y (long p d.0 ed) (in_subtree m tree d.0 y d.2).1))
  where
    long : (p d : Node) → parent d ≡ Some p → 0 < length d
    long p d e = let s = parent_shorter p d e in omega (arith, s)

    later : (x y d : Node) → comes_before x d ≡ true → (y ≡ d) ⊎ (comes_before d y ≡ true) → comes_before x y ≡ true
    later x y d low (inl e) = subst (λ z. comes_before x z ≡ true) (sym e) low
    later x y d low (inr g) = before_trans x d y low g

-- a full node under p is in the subtree of one of its children
child_above : (k : ℕ) (m : Store) → IsTreeMap m → (p : Node) (ch : List Node) → AreChildren (at m) (Some p) ch → (n : Node) → length n ≤ k → is_empty (at m n) ≡ false → is_under n p ≡ true → (c : Node) × (has ch c ≡ true) × (is_in n c ≡ true)
child_above zero m tree p ch are n short full u = let s = under_shorter n p u in absurd (omega (arith, s))
child_above (suc k) m tree p ch are n short full u = go (λ r s f v. child_above k m tree p ch are r s f v) (under_split n p u)
  where
    go : ((r : Node) → length r ≤ k → is_empty (at m r) ≡ false → is_under r p ≡ true → (c : Node) × (has ch c ≡ true) × (is_in r c ≡ true)) → HasParentUnder n p → (c : Node) × (has ch c ≡ true) × (is_in n c ≡ true)
    go rec w = split w.way
      where
        split : (w.up ≡ p) ⊎ (is_under w.up p ≡ true) → (c : Node) × (has ch c ≡ true) × (is_in n c ≡ true)
        split (inl e) = (n, has_of ch n ((are n).1 (w.is ∙ ap (λ x. Some x) e, full)), or_left (same_path n n) (is_under n n) (same_path_refl n))
        split (inr v) =
            let s = w.shorter in
            let r = rec w.up (omega (arith, s)) (full_from_dir (at m w.up) (tree.tree w.up n w.is full)) v in
            (r.0, r.1, or_right (same_path n r.0) (is_under n r.0) (below r.0 (from_or (same_path w.up r.0) (is_under w.up r.0) r.2)))
          where
            below : (c : Node) → (same_path w.up c ≡ true) ⊎ (is_under w.up c ≡ true) → is_under n c ≡ true
            below c (inl e) = under_parent c n (w.is ∙ ap (λ x. Some x) (same_path_is w.up c e))
            below c (inr v) = under_down n w.up c w.is v

children_below : (m : Store) (p : Node) (ch : List Node) → AreChildren (at m) (Some p) ch → AreChildrenOf p ch
children_below m p ch are c h = ((are c).0 (of_has ch c h)).0

pub subtree_step : (m : Store) → IsTreeMap m → (p : Node) (ch : List Node) → is_empty (at m p) ≡ false → AreChildren (at m) (Some p) ch → AreBelow (Some p) ch → subtree (nodes_of m) p ≡ p ∷ flat_map (subtree (nodes_of m)) ch
subtree_step m tree p ch full are below = one_list (subtree (nodes_of m) p) (p ∷ flat_map (subtree (nodes_of m)) ch) (subtree_ascends m p) (
  after_from p (flat_map (subtree (nodes_of m)) ch) (λ x h. behind x (any_of (λ c. has (subtree (nodes_of m) c) x) ch (sym (has_flat (subtree (nodes_of m)) ch x) ∙ h))),
  flat_ascends m tree p ch (ascends_places ch below.order) (children_below m p ch are),
) (λ n. same_test (has (subtree (nodes_of m) p) n) (has (p ∷ flat_map (subtree (nodes_of m)) ch) n) (to n) (from n))
  where
    long : (d : Node) → parent d ≡ Some p → 0 < length d
    long d e = let s = parent_shorter p d e in omega (arith, s)

    behind : (x : Node) → (c : Node) × (has ch c ≡ true) × (has (subtree (nodes_of m) c) x ≡ true) → comes_before p x ≡ true
    behind x (c, h, g) = go (at_or_after c x (long c (children_below m p ch are c h)) (in_subtree m tree c x g).1)
      where
        go : (x ≡ c) ⊎ (comes_before c x ≡ true) → comes_before p x ≡ true
        go (inl e) = subst (λ y. comes_before p y ≡ true) (sym e) (parent_before p c (children_below m p ch are c h))
        go (inr l) = before_trans p c x (parent_before p c (children_below m p ch are c h)) l

    to : (n : Node) → has (subtree (nodes_of m) p) n ≡ true → has (p ∷ flat_map (subtree (nodes_of m)) ch) n ≡ true
    to n h = let i = in_subtree m tree p n h in go i.0 (from_or (same_path n p) (is_under n p) i.1)
      where
        go : is_empty (at m n) ≡ false → (same_path n p ≡ true) ⊎ (is_under n p ≡ true) → has (p ∷ flat_map (subtree (nodes_of m)) ch) n ≡ true
        go f (inl s) = or_left (same_path n p) (has (flat_map (subtree (nodes_of m)) ch) n) s
        go f (inr u) =
            let c = child_above (length n) m tree p ch are n (omega arith) f u in
            or_right (same_path n p) (has (flat_map (subtree (nodes_of m)) ch) n)
            (has_flat (subtree (nodes_of m)) ch n ∙ any_at (λ c. has (subtree (nodes_of m) c) n) ch c.0 c.1 (to_subtree m tree c.0 n f c.2))

    from : (n : Node) → has (p ∷ flat_map (subtree (nodes_of m)) ch) n ≡ true → has (subtree (nodes_of m) p) n ≡ true
    from n h = go (from_or (same_path n p) (has (flat_map (subtree (nodes_of m)) ch) n) h)
      where
        go : (same_path n p ≡ true) ⊎ (has (flat_map (subtree (nodes_of m)) ch) n ≡ true) → has (subtree (nodes_of m) p) n ≡ true
        go (inl s) = to_subtree m tree p n (subst (λ k. is_empty (at m k) ≡ false) (sym (same_path_is n p s)) full) (or_left (same_path n p) (is_under n p) s)
        go (inr g) =
            let c = any_of (λ c. has (subtree (nodes_of m) c) n) ch (sym (has_flat (subtree (nodes_of m)) ch n) ∙ g) in
            let i = in_subtree m tree c.0 n c.2 in
            to_subtree m tree p n i.0 (or_right (same_path n p) (is_under n p) (below_p c.0 (children_below m p ch are c.0 c.1) (from_or (same_path n c.0) (is_under n c.0) i.1)))
          where
            below_p : (c : Node) → parent c ≡ Some p → (same_path n c ≡ true) ⊎ (is_under n c ≡ true) → is_under n p ≡ true
            below_p c e (inl s) = under_parent p n (ap parent (same_path_is n c s) ∙ e)
            below_p c e (inr u) = under_up n c p u e
