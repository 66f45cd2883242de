-- Lists of nodes in path order.
use Rattle.std.proofs.Common.{◌≡◌, ◌⊎◌, inl, inr, ℕ, zero, suc, ◌<◌, Bool, true, false, not, ◌&&◌, ◌||◌, List, [], ◌∷◌, ◌++◌, length, get_or, Option, Some, None, refl, sym, ap, subst, ◌∙◌, arith}
use Rattle.std.specs.Prelude.{T, IsTrue, if◌then◌else◌, is_some, map, AllPairs}
use Rattle.std.specs.List.{AllByRecursion, Contains, filter, list_any}
use Rattle.std.specs.FinMap as finite
use Rattle.std.specs.FinMap.{contains_key-keys, entries_sorted, is_sorted}
use Rattle.std.specs.FinMap.Entries.{below_all}
use Rattle.std.specs.Ordering.{is_lt}
use Rattle.sync_path.specs.Paths.{Node, comes_before, path_cmp, same_path}
use Rattle.sync_path.proofs.CallerLemmas.{before_irrefl, before_asym, same_path_at, same_path_is, same_path_refl}
use Rattle.sync_command.specs.Maps.{IsTreeMap, Store, at, value_or_empty}
use Rattle.sync_command.specs.Values.{is_empty}
use Rattle.sync_command.specs.declared.values.Value.{Value}
use Rattle.sync_command.specs.declared.values.Value.TheVariants.{Empty, Dir, File}

-- a node is in the list
abbrev pub has : List Node → Node → Bool
has ns p = list_any (same_path p) ns

-- the node comes before each of the list
abbrev pub After : Node → List Node → Type 0
After n ns = AllByRecursion (λ k. comes_before n k ≡ true) ns

-- each comes before those after it
abbrev pub Ascends : List Node → Type 0
Ascends [] = Unit {0}
Ascends (n ∷ ns) = After n ns × Ascends ns

-- ---- tests

pub from_or : (a b : Bool) → (a || b) ≡ true → (a ≡ true) ⊎ (b ≡ true)
from_or true b e = inl refl
from_or false b e = inr e

pub or_right : (a b : Bool) → b ≡ true → (a || b) ≡ true
or_right true b e = refl
or_right false b e = e

pub or_left : (a b : Bool) → a ≡ true → (a || b) ≡ true
or_left a b e = ap (λ c. c || b) e

pub not_both : (b : Bool) → b ≡ true → b ≡ false → ⊥
not_both true e f = cc
not_both false e f = cc

pub same_test : (a b : Bool) → (a ≡ true → b ≡ true) → (b ≡ true → a ≡ true) → a ≡ b
same_test true true f g = refl
same_test true false f g = sym (f refl)
same_test false true f g = g refl
same_test false false f g = refl

-- ---- members

pub has-append : (a b : List Node) (p : Node) → has (a ++ b) p ≡ (has a p || has b p)
has-append [] b p = refl
has-append (x ∷ a) b p = go (same_path p x) (has-append a b p)
  where
    go : (s : Bool) → has (a ++ b) p ≡ (has a p || has b p) → (s || has (a ++ b) p) ≡ ((s || has a p) || has b p)
    go true e = refl
    go false e = e

pub has-filter : (f : Node → Bool) (ns : List Node) (p : Node) → has (filter f ns) p ≡ (has ns p && f p)
has-filter f [] p = refl
has-filter f (x ∷ ns) p = go (same_path p x) refl (f x) refl (has-filter f ns p)
  where
    go : (s : Bool) → same_path p x ≡ s → (b : Bool) → f x ≡ b → has (filter f ns) p ≡ (has ns p && f p) → has (if b then x ∷ filter f ns else filter f ns) p ≡ ((s || has ns p) && f p)
    go true s true b e = ap (λ t. t || has (filter f ns) p) s ∙ sym (ap f (same_path_is p x s) ∙ b)
    go true s false b e = e ∙ ap (λ t. has ns p && t) (ap f (same_path_is p x s) ∙ b) ∙ never (has ns p) ∙ sym (ap f (same_path_is p x s) ∙ b)
      where
        never : (b : Bool) → (b && false) ≡ false
        never true = refl
        never false = refl
    go false s true b e = ap (λ t. t || has (filter f ns) p) s ∙ e
    go false s false b e = e

pub after_has : (n : Node) (ns : List Node) (p : Node) → After n ns → has ns p ≡ true → comes_before n p ≡ true
after_has n [] p h e = absurd (not_both false e refl)
after_has n (x ∷ ns) p h e = go (after_has n ns p h.1) (from_or (same_path p x) (has ns p) e)
  where
    go : (has ns p ≡ true → comes_before n p ≡ true) → (same_path p x ≡ true) ⊎ (has ns p ≡ true) → comes_before n p ≡ true
    go rec (inl s) = subst (λ q. comes_before n q ≡ true) (sym (same_path_is p x s)) h.0
    go rec (inr e) = rec e

pub after_from : (n : Node) (ns : List Node) → ((p : Node) → has ns p ≡ true → comes_before n p ≡ true) → After n ns
after_from n [] f = tt
after_from n (x ∷ ns) f = (f x (or_left (same_path x x) (has ns x) (same_path_refl x)), after_from n ns (λ p h. f p (or_right (same_path p x) (has ns p) h)))

not_after : (n : Node) (ns : List Node) → After n ns → has ns n ≡ false
not_after n ns h = go (has ns n) refl
  where
    go : (b : Bool) → has ns n ≡ b → b ≡ false
    go true e = absurd (not_both (comes_before n n) (after_has n ns n h e) (before_irrefl n))
    go false e = refl

-- ---- parts of ascending lists

pub ascends_filter : (f : Node → Bool) (ns : List Node) → Ascends ns → Ascends (filter f ns)
ascends_filter f [] h = tt
ascends_filter f (x ∷ ns) h = go (f x) (ascends_filter f ns h.1)
  where
    after : After x (filter f ns)
    after = after_from x (filter f ns) (λ p e. after_has x ns p h.0 (first (has ns p) (f p) (sym (has-filter f ns p) ∙ e)))
      where
        first : (a b : Bool) → (a && b) ≡ true → a ≡ true
        first true b e = refl
        first false b e = e

    go : (b : Bool) → Ascends (filter f ns) → Ascends (if b then x ∷ filter f ns else filter f ns)
    go true rest = (after, rest)
    go false rest = rest

pub ascends_append : (a b : List Node) → Ascends a → Ascends b → ((x y : Node) → has a x ≡ true → has b y ≡ true → comes_before x y ≡ true) → Ascends (a ++ b)
ascends_append [] b ha hb f = hb
ascends_append (x ∷ a) b ha hb f = (
  after_from x (a ++ b) (λ p e. go p (from_or (has a p) (has b p) (sym (has-append a b p) ∙ e))),
  ascends_append a b ha.1 hb (λ y z hy hz. f y z (or_right (same_path y x) (has a y) hy) hz),
)
  where
    go : (p : Node) → (has a p ≡ true) ⊎ (has b p ≡ true) → comes_before x p ≡ true
    go p (inl e) = after_has x a p ha.0 e
    go p (inr e) = f x p (or_left (same_path x x) (has a x) (same_path_refl x)) e

-- two ascending lists with the same members are one
pub one_list : (a b : List Node) → Ascends a → Ascends b → ((p : Node) → has a p ≡ has b p) → a ≡ b
one_list [] [] ha hb e = refl
one_list [] (y ∷ b) ha hb e = absurd (not_both false (e y ∙ or_left (same_path y y) (has b y) (same_path_refl y)) refl)
one_list (x ∷ a) [] ha hb e = absurd (not_both false (sym (e x) ∙ or_left (same_path x x) (has a x) (same_path_refl x)) refl)
one_list (x ∷ a) (y ∷ b) ha hb e = let same = head in (λ i. same i ∷ one_list a b ha.1 hb.1 rest i)
  where
    in_b : (same_path x y ≡ true) ⊎ (has b x ≡ true)
    in_b = from_or (same_path x y) (has b x) (sym (e x) ∙ or_left (same_path x x) (has a x) (same_path_refl x))

    in_a : (same_path y x ≡ true) ⊎ (has a y ≡ true)
    in_a = from_or (same_path y x) (has a y) (e y ∙ or_left (same_path y y) (has b y) (same_path_refl y))

    head : x ≡ y
    head = go in_b in_a
      where
        go : (same_path x y ≡ true) ⊎ (has b x ≡ true) → (same_path y x ≡ true) ⊎ (has a y ≡ true) → x ≡ y
        go (inl s) i = same_path_is x y s
        go (inr h) (inl s) = sym (same_path_is y x s)
        go (inr h) (inr g) = absurd (not_both (comes_before y x) (after_has y b x hb.0 h) (before_asym x y (after_has x a y ha.0 g)))

    rest : (p : Node) → has a p ≡ has b p
    rest p = go (same_path p x) refl (e p)
      where
        go : (s : Bool) → same_path p x ≡ s → (s || has a p) ≡ (same_path p y || has b p) → has a p ≡ has b p
        go true s h = ap (has a) (same_path_is p x s) ∙ not_after x a ha.0 ∙ sym (ap (has b) (same_path_is p x s ∙ head) ∙ not_after y b hb.0)
        go false s h = h ∙ ap (λ t. t || has b p) (sym (ap (same_path p) head) ∙ s)

-- ---- the nodes of a map

lower : (n : Node) (es : List (Node × Value)) → T (below_all path_cmp n es) → After n (map (λ e. e.0) es)
unfolding comes_before
lower n [] h = tt
lower n (e ∷ es) h = (is (is_lt (path_cmp n e.0)) (first _ _ h), lower n es (second _ _ h))
  where
    is : (b : Bool) → T b → b ≡ true
    is true h = refl
    is false h = absurd h

    first : (a b : Bool) → T (a && b) → T a
    first true b p = tt
    first false b p = p

    second : (a b : Bool) → T (a && b) → T b
    second true b p = p
    second false b p = absurd p

keys_from_sorted : (es : List (Node × Value)) → T (is_sorted path_cmp es) → Ascends (map (λ e. e.0) es)
keys_from_sorted [] h = tt
keys_from_sorted (e ∷ es) h = (lower e.0 es (first _ _ h), keys_from_sorted es (second _ _ h))
  where
    first : (a b : Bool) → T (a && b) → T a
    first true b p = tt
    first false b p = p

    second : (a b : Bool) → T (a && b) → T b
    second true b p = p
    second false b p = absurd p

pub keys_ascend : (m : Store) → Ascends (finite.keys m)
keys_ascend m = keys_from_sorted (finite.entries m) (entries_sorted m)

pub keys_full : (m : Store) → IsTreeMap m → (p : Node) → has (finite.keys m) p ≡ not (is_empty (at m p))
unfolding same_path
keys_full m tree p = sym (contains_key-keys m p) ∙ go (finite.get m p) refl
  where
    go : (o : Option Value) → finite.get m p ≡ o → is_some o ≡ not (is_empty (value_or_empty o))
    go None e = refl
    go (Some Empty) e = absurd (tree.full p e)
    go (Some (Dir label)) e = refl
    go (Some (File bytes)) e = refl

-- ---- lists by their places

after_places : (n : Node) (ns : List Node) → ((j : ℕ) (d : Node) → j < length ns → IsTrue (comes_before n (get_or ns j d))) → After n ns
after_places n [] f = tt
after_places n (x ∷ ns) f = (f 0 x (omega arith), after_places n ns (λ j d h. f (suc j) d (omega arith)))

pub ascends_places : (ns : List Node) → AllPairs (λ p q. IsTrue (comes_before p q)) ns → Ascends ns
ascends_places [] h = tt
ascends_places (x ∷ ns) h = (after_places x ns (λ j d low. h 0 (suc j) d (omega arith) (omega arith)), ascends_places ns (λ i j d low high. h (suc i) (suc j) d (omega arith) (omega arith)))

pub has_of : (ks : List Node) (p : Node) → Contains ks p → has ks p ≡ true
has_of [] p (i, low, is) = absurd (omega arith)
has_of (k ∷ ks) p (zero, low, is) = or_left (same_path p k) (has ks p) (same_path_at p k (sym is))
has_of (k ∷ ks) p (suc i, low, is) = or_right (same_path p k) (has ks p) (has_of ks p (i, omega arith, is))

pub of_has : (ks : List Node) (p : Node) → has ks p ≡ true → Contains ks p
of_has [] p h = absurd (not_both false h refl)
of_has (k ∷ ks) p h = go (of_has ks p) (from_or (same_path p k) (has ks p) h)
  where
    further : Contains ks p → Contains (k ∷ ks) p
    further (i, low, is) = (suc i, omega arith, is)

    go : (has ks p ≡ true → Contains ks p) → (same_path p k ≡ true) ⊎ (has ks p ≡ true) → Contains (k ∷ ks) p
    go rec (inl s) = (zero, omega arith, sym (same_path_is p k s))
    go rec (inr h) = further (rec h)
