-- The changes of sorted claims, part by part.
use Rattle.std.proofs.Common.{◌≡◌, ◌<◌, ◌≤◌, ◌+◌, ◌-◌, ◌==◌, ℕ, zero, suc, Bool, true, false, not, ◌&&◌, ◌||◌, List, [], ◌∷◌, ◌++◌, take, drop, length, Option, Some, None, refl, sym, ap, ◌∙◌, arith}
use Rattle.std.specs.Prelude.{cond, if◌then◌else◌}
use Rattle.std.specs.List.{filter, list_all, list_any, slice_get, slice_range}
use Rattle.sync_path.specs.Paths.{Node, same_path, comes_before}
use Rattle.sync_command.specs.Values.{same_value}
use Rattle.sync_command.specs.declared.values.Value.{Value}
use Rattle.sync_command.specs.Changes.{Change, same_change, is_change}
use Rattle.refluent.specs.Sets.{is_in, without_repeats, differs_from}
use Rattle.refluent.specs.Tables.{AreSorted, IsGroup, node_of}
use Rattle.refluent.specs.UniqueClaims.{AreUnique}
use Rattle.refluent.specs.JointParts.{change_in, change_by, changes_of, with_change, if_change}
use Rattle.refluent.specs.Numberings.{all_changes, touch_alike}
use Rattle.refluent.specs.declared.claims.Statement.{Statement}
use Rattle.refluent.specs.declared.claims.Statement.TheVariants.{Above, Touches}
use Rattle.refluent.specs.declared.claims.Claim.{Claim}
use Rattle.refluent.specs.declared.table.Group.{Group}
use Rattle.refluent.proofs.Wanting.{range_at}
use Rattle.refluent.proofs.Nets.{change_node, change_touching, is_log}
use Rattle.refluent.proofs.CanonicalPlaces.{rises}
use Rattle.sync_command.proofs.CallerLemmas.{same_value_is}
use Rattle.sync_path.proofs.CallerLemmas.{same_path_is, same_path_at, before_total}

-- ---- a list around one of its places

pub record HasParts {X : Type 0} (xs : List X) (k : ℕ) (x : X) : Type 0 where
  pub whole : xs ≡ take k xs ++ x ∷ drop (k + 1) xs
  pub rest : drop k xs ≡ x ∷ drop (k + 1) xs
  pub more : take (k + 1) xs ≡ take k xs ++ x ∷ []

pub has_parts : {X : Type 0} (xs : List X) (k : ℕ) (x : X) → slice_get xs k ≡ Some x → HasParts xs k x
has_parts {X} xs k x e = let one : suc k ≡ k + 1 = omega arith in record {
  whole = whole xs k e ∙ ap (λ n. take k xs ++ x ∷ drop n xs) one;
  rest = rest xs k e ∙ ap (λ n. x ∷ drop n xs) one;
  more = ap (λ n. take n xs) (sym one) ∙ more xs k e;
}
  where
    same : (y : X) → Some y ≡ Some x → y ≡ x
    same y h = cc

    whole : (xs : List X) (k : ℕ) → slice_get xs k ≡ Some x → xs ≡ take k xs ++ x ∷ drop (suc k) xs
    whole [] k e = cc (e)
    whole (y ∷ xs) zero e = ap (λ z. z ∷ xs) (same y e)
    whole (y ∷ xs) (suc k) e = ap (λ l. y ∷ l) (whole xs k e)

    rest : (xs : List X) (k : ℕ) → slice_get xs k ≡ Some x → drop k xs ≡ x ∷ drop (suc k) xs
    rest [] k e = cc (e)
    rest (y ∷ xs) zero e = ap (λ z. z ∷ xs) (same y e)
    rest (y ∷ xs) (suc k) e = rest xs k e

    more : (xs : List X) (k : ℕ) → slice_get xs k ≡ Some x → take (suc k) xs ≡ take k xs ++ x ∷ []
    more [] k e = cc (e)
    more (y ∷ xs) zero e = ap (λ z. z ∷ []) (same y e)
    more (y ∷ xs) (suc k) e = ap (λ l. y ∷ l) (more xs k e)

-- ---- changes of joined claims

with-append : (b : Bool) (o : Option Change) (xs ys : List Change) → with_change b o (xs ++ ys) ≡ with_change b o xs ++ ys
with-append false o xs ys = refl
with-append true None xs ys = refl
with-append true (Some c) xs ys = refl

pub changes-append : (l : ℕ) (xs ys : List Claim) → changes_of l (xs ++ ys) ≡ changes_of l xs ++ changes_of l ys
changes-append l [] ys = refl
changes-append l (x ∷ xs) ys = ap (with_change (x.log == l) (change_in x)) (changes-append l xs ys) ∙ with-append (x.log == l) (change_in x) (changes_of l xs) (changes_of l ys)

pub all-append : (xs ys : List Claim) → all_changes (xs ++ ys) ≡ all_changes xs ++ all_changes ys
all-append [] ys = refl
all-append (x ∷ xs) ys = ap (with_change true (change_in x)) (all-append xs ys) ∙ with-append true (change_in x) (all_changes xs) (all_changes ys)

-- ---- the changes of a log are in path order

before_each : (l : ℕ) (p : Node) (cs : List Claim) → ((k : ℕ) (e : Claim) → slice_get cs k ≡ Some e → e.log ≡ l → comes_before p e.path ≡ true) → list_all (λ d. comes_before p d.node) (changes_of l cs) ≡ true
before_each l p [] h = refl
before_each l p (e ∷ cs) h = go (e.log == l) refl (change_in e) refl (before_each l p cs (λ k x at. h (suc k) x at))
  where
    both' : (a b : Bool) → a ≡ true → b ≡ true → (a && b) ≡ true
    both' a b x y = grind arith

    go : (b : Bool) → (e.log == l) ≡ b → (o : Option Change) → change_in e ≡ o → list_all (λ d. comes_before p d.node) (changes_of l cs) ≡ true → list_all (λ d. comes_before p d.node) (with_change b o (changes_of l cs)) ≡ true
    go false f o g ih = ih
    go true f None g ih = ih
    go true f (Some d) g ih = both' (comes_before p d.node) _ (ap (comes_before p) (change_node e d g) ∙ h 0 e refl (is_log e.log l f)) ih

pub rises_changes : (l : ℕ) (cs : List Claim) → AreSorted cs → AreUnique cs → rises (changes_of l cs) ≡ true
rises_changes l [] sorted unique = refl
rises_changes l (c ∷ cs) sorted unique = go (c.log == l) refl (change_in c) refl (rises_changes l cs (λ i j x y less e f. sorted (suc i) (suc j) x y (omega arith) e f) tail)
  where
    tail : AreUnique cs
    tail i j x y e f a p t = let s : suc i ≡ suc j = unique (suc i) (suc j) x y e f a p t in omega arith

    both' : (a b : Bool) → a ≡ true → b ≡ true → (a && b) ≡ true
    both' a b x y = grind arith

    apart : (d : Change) → change_in c ≡ Some d → (k : ℕ) (e : Claim) → slice_get cs k ≡ Some e → e.log ≡ c.log → same_path e.path c.path ≡ false
    apart d g k e at log = by (same_path e.path c.path) refl
      where
        by : (b : Bool) → same_path e.path c.path ≡ b → b ≡ false
        by false f = refl
        by true f = let s : 0 ≡ suc k = unique 0 (suc k) c e refl at (sym log) (sym (same_path_is e.path c.path f)) (change_touching c d g) in absurd (omega arith)

    go : (b : Bool) → (c.log == l) ≡ b → (o : Option Change) → change_in c ≡ o → rises (changes_of l cs) ≡ true → rises (with_change b o (changes_of l cs)) ≡ true
    go false f o g ih = ih
    go true f None g ih = ih
    go true f (Some d) g ih = both' _ _ (before_each l d.node cs (λ k e at log. ap (λ p. comes_before p e.path) (change_node c d g) ∙
        before_total e.path c.path (apart d g k e at (log ∙ sym (is_log c.log l f))) (sorted 0 (suc k) c e (omega arith) refl at))) ih

-- ---- whether a command came before

changes_to : Change → Option Change → Bool
changes_to d None = false
changes_to d (Some x) = same_change d x

in_all : (cs : List Claim) (d : Change) → is_in (all_changes cs) d ≡ list_any (λ e. changes_to d (change_in e)) cs
unfolding changes_to
in_all [] d = refl
in_all (c ∷ cs) d = go (change_in c) (in_all cs d)
  where
    go : (o : Option Change) → is_in (all_changes cs) d ≡ list_any (λ e. changes_to d (change_in e)) cs → is_in (with_change true o (all_changes cs)) d ≡ (changes_to d o || list_any (λ e. changes_to d (change_in e)) cs)
    go None ih = ih
    go (Some x) ih = ap (λ b. same_change d x || b) ih

pub any-same : {X : Type 0} (f g : X → Bool) (xs : List X) → ((k : ℕ) (x : X) → slice_get xs k ≡ Some x → f x ≡ g x) → list_any f xs ≡ list_any g xs
any-same f g [] h = refl
any-same f g (x ∷ xs) h = ap (λ b. b || list_any f xs) (h 0 x refl) ∙ ap (λ b. g x || b) (any-same f g xs (λ k y e. h (suc k) y e))

any-append : {X : Type 0} (f : X → Bool) (xs ys : List X) → list_any f (xs ++ ys) ≡ (list_any f xs || list_any f ys)
any-append f [] ys = refl
any-append f (x ∷ xs) ys = ap (λ b. f x || b) (any-append f xs ys) ∙ assoc (f x) (list_any f xs) (list_any f ys)
  where
    assoc : (a b c : Bool) → (a || (b || c)) ≡ ((a || b) || c)
    assoc a b c = grind arith

any-none : {X : Type 0} (f : X → Bool) (xs : List X) → ((k : ℕ) (x : X) → slice_get xs k ≡ Some x → f x ≡ false) → list_any f xs ≡ false
any-none f [] h = refl
any-none f (x ∷ xs) h = ap (λ b. b || list_any f xs) (h 0 x refl) ∙ any-none f xs (λ k y e. h (suc k) y e)

-- a claim of the same node makes the same command where both touch it alike
alike_is : (c e : Claim) (d : Change) → e.path ≡ c.path → change_in c ≡ Some d → changes_to d (change_in e) ≡ touch_alike c.says e.says
unfolding changes_to
alike_is c e d path h = go c.says h e.says
  where
    some_is : {a b : Change} → Some a ≡ Some b → a ≡ b
    some_is e = cc

    by : (a b a' b' : Value) → is_change (record { node = c.path; old = a; new = b }) ≡ true → (y : Bool) → is_change (record { node = e.path; old = a'; new = b' }) ≡ y →
        changes_to (record { node = c.path; old = a; new = b }) (if_change y (record { node = e.path; old = a'; new = b' })) ≡ (same_value a a' && same_value b b')
    by a b a' b' f true g = ap (λ x. x && (same_value a a' && same_value b b')) (same_path_at c.path e.path (sym path))
    by a b a' b' f false g = none (same_value a a') (same_value b b') (same_value_is a a') (same_value_is b b')
      where
        none : (x y : Bool) → (x ≡ true → a ≡ a') → (y ≡ true → b ≡ b') → false ≡ (x && y)
        none false y p q = refl
        none true false p q = refl
        none true true p q = let s : is_change (record { node = e.path; old = a'; new = b' }) ≡ true = ap (λ v. not (same_value v b')) (sym (p refl)) ∙ ap (λ v. not (same_value a v)) (sym (q refl)) ∙ f in cc (s, g)

    go : (s : Statement) → change_by c.path s ≡ Some d → (t : Statement) → changes_to d (change_by e.path t) ≡ touch_alike s t
    go Above f t = cc (f)
    go (Touches a b l) f Above = refl
    go (Touches a b l) f (Touches a' b' m) = if_true (is_change (record { node = c.path; old = a; new = b })) refl f
      where
        if_true : (y : Bool) → is_change (record { node = c.path; old = a; new = b }) ≡ y → if_change y (record { node = c.path; old = a; new = b }) ≡ Some d → changes_to d (change_by e.path (Touches a' b' m)) ≡ (same_value a a' && same_value b b')
        if_true false x f = cc (f)
        if_true true x f = ap (λ z. changes_to z (change_by e.path (Touches a' b' m))) (sym (some_is f)) ∙ by a b a' b' x (is_change (record { node = e.path; old = a'; new = b' })) refl

other_is : (c e : Claim) (d : Change) → (e.path ≡ c.path → ⊥) → change_in c ≡ Some d → changes_to d (change_in e) ≡ false
unfolding changes_to
other_is c e d apart h = go (change_in e) refl
  where
    first : (a b : Bool) → a ≡ false → (a && b) ≡ false
    first a b x = grind arith

    go : (o : Option Change) → change_in e ≡ o → changes_to d o ≡ false
    go None f = refl
    go (Some x) f = first (same_path d.node x.node) _ (by (same_path d.node x.node) refl)
      where
        by : (b : Bool) → same_path d.node x.node ≡ b → b ≡ false
        by false g = refl
        by true g = absurd (apart (sym (change_node e x f) ∙ sym (same_path_is d.node x.node g) ∙ change_node c d h))

take-none : {X : Type 0} (xs : List X) → xs ≡ [] → (n : ℕ) → take n xs ≡ []
take-none [] e zero = refl
take-none [] e (suc n) = refl
take-none (x ∷ xs) e n = cc (e)

pub take_range : {X : Type 0} (xs : List X) (a k : ℕ) → a ≤ k → take k xs ≡ take a xs ++ slice_range xs a k
take_range xs zero k low = ap (λ n. take n xs) zero_less
  where
    zero_less : k ≡ k - 0
    zero_less = omega arith
take_range [] (suc a) k low = take-none [] refl k ∙ sym (take-none [] refl (k - suc a))
take_range (x ∷ xs) (suc a) zero low = absurd (omega arith)
take_range (x ∷ xs) (suc a) (suc k) low = ap (λ l. x ∷ l) (take_range xs a k (omega arith) ∙ ap (λ n. take a xs ++ take n (drop a xs)) same)
  where
    same : k - a ≡ suc k - suc a
    same = omega arith

take_at' : {X : Type 0} (n : ℕ) (l : List X) (k : ℕ) (x : X) → slice_get (take n l) k ≡ Some x → (k < n) × (slice_get l k ≡ Some x)
take_at' zero l k x e = cc
take_at' (suc n) [] k x e = cc
take_at' (suc n) (y ∷ l) zero x e = (omega arith, e)
take_at' (suc n) (y ∷ l) (suc k) x e = let h = take_at' n l k x e in (omega (arith, h.0), h.1)

-- the command of a claim came before exactly where an earlier claim of its node touches it alike
pub came_before : (cs : List Claim) (s : Group) (k : ℕ) (c : Claim) (d : Change) → IsGroup cs s → s.start ≤ k → k < s.end → slice_get cs k ≡ Some c → change_in c ≡ Some d →
    is_in (all_changes (take k cs)) d ≡ list_any (λ e. touch_alike c.says e.says) (slice_range cs s.start k)
came_before cs s k c d group low high at change =
    in_all (take k cs) d ∙ ap (list_any (λ e. changes_to d (change_in e))) (take_range cs s.start k low) ∙ any-append (λ e. changes_to d (change_in e)) (take s.start cs) (slice_range cs s.start k) ∙
    ap (λ b. b || list_any (λ e. changes_to d (change_in e)) (slice_range cs s.start k)) (any-none (λ e. changes_to d (change_in e)) (take s.start cs) earlier) ∙
    any-same (λ e. changes_to d (change_in e)) (λ e. touch_alike c.says e.says) (slice_range cs s.start k) own
  where
    here : c.path ≡ node_of cs s
    here = group.inside k c low high at

    earlier : (i : ℕ) (e : Claim) → slice_get (take s.start cs) i ≡ Some e → changes_to d (change_in e) ≡ false
    earlier i e f = let h = take_at' s.start cs i e f in other_is c e d (λ same. let r = group.outside i e h.1 (same ∙ here) in let a : i < s.start = h.0 in let b : s.start ≤ i = r.0 in absurd (omega arith)) change

    own : (i : ℕ) (e : Claim) → slice_get (slice_range cs s.start k) i ≡ Some e → changes_to d (change_in e) ≡ touch_alike c.says e.says
    own i e f = let h = range_at cs s.start k i e f in let below : s.start + i < k = h.0 in alike_is c e d (group.inside (s.start + i) e (omega arith) (omega arith) h.1 ∙ sym here) change

-- ---- one command more in a list without repeats

filter-append' : (f : Change → Bool) (xs ys : List Change) → filter f (xs ++ ys) ≡ filter f xs ++ filter f ys
filter-append' f [] ys = refl
filter-append' f (x ∷ xs) ys = go (f x) (filter-append' f xs ys)
  where
    go : (b : Bool) → filter f (xs ++ ys) ≡ filter f xs ++ filter f ys → cond b (x ∷ filter f (xs ++ ys)) (filter f (xs ++ ys)) ≡ cond b (x ∷ filter f xs) (filter f xs) ++ filter f ys
    go true ih = ap (λ l. x ∷ l) ih
    go false ih = ih

no_more : (xs : List Change) → xs ++ [] ≡ xs
no_more [] = refl
no_more (x ∷ xs) = ap (λ l. x ∷ l) (no_more xs)

pub repeats-append : (xs : List Change) (d : Change) → without_repeats (xs ++ d ∷ []) ≡ (if is_in xs d then without_repeats xs else without_repeats xs ++ d ∷ [])
repeats-append [] d = refl
repeats-append (x ∷ xs) d = ap (λ l. x ∷ filter (differs_from x) l) (repeats-append xs d) ∙ go (is_in xs d) (same_change d x)
  where
    go : (a b : Bool) → x ∷ filter (differs_from x) (if is_in xs d then without_repeats xs else without_repeats xs ++ d ∷ []) ≡ (if same_change d x || is_in xs d then without_repeats (x ∷ xs) else without_repeats (x ∷ xs) ++ d ∷ [])
    go a b = by (is_in xs d) (same_change d x) refl
      where
        by : (a b : Bool) → same_change d x ≡ b → x ∷ filter (differs_from x) (if a then without_repeats xs else without_repeats xs ++ d ∷ []) ≡ (if b || a then without_repeats (x ∷ xs) else without_repeats (x ∷ xs) ++ d ∷ [])
        by true true e = refl
        by true false e = refl
        by false true e = ap (λ l. x ∷ l) (filter-append' (differs_from x) (without_repeats xs) (d ∷ []) ∙ ap (λ b. filter (differs_from x) (without_repeats xs) ++ cond (not b) (d ∷ []) []) e ∙ no_more (filter (differs_from x) (without_repeats xs)))
        by false false e = ap (λ l. x ∷ l) (filter-append' (differs_from x) (without_repeats xs) (d ∷ []) ∙ ap (λ b. filter (differs_from x) (without_repeats xs) ++ cond (not b) (d ∷ []) []) e)

pub repeats_more : (xs : List Change) (d : Change) → length (without_repeats (xs ++ d ∷ [])) ≡ (if is_in xs d then length (without_repeats xs) else length (without_repeats xs) + 1)
repeats_more xs d = ap length (repeats-append xs d) ∙ go (is_in xs d)
  where
    longer : (ys : List Change) → length (ys ++ d ∷ []) ≡ length ys + 1
    longer [] = omega arith
    longer (y ∷ ys) = let h : length (ys ++ d ∷ []) ≡ length ys + 1 = longer ys in omega arith

    go : (b : Bool) → length (if b then without_repeats xs else without_repeats xs ++ d ∷ []) ≡ (if b then length (without_repeats xs) else length (without_repeats xs) + 1)
    go true = refl
    go false = longer (without_repeats xs)

-- ---- the change of one claim

pub change_said : (c : Claim) (a b : Value) (l : Bool) → c.says ≡ Touches a b l → same_value a b ≡ false → change_in c ≡ Some (record { node = c.path; old = a; new = b })
change_said c a b l is e = ap (change_by c.path) is ∙ ap (λ x. if_change (not x) (record { node = c.path; old = a; new = b })) e
