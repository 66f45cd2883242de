-- Where a command is in the canonical list of commands that are given in path order.
use Rattle.std.proofs.Common.{◌≡◌, ◌+◌, suc, Bool, true, false, not, ◌&&◌, List, [], ◌∷◌, ◌++◌, length, refl, sym, ap, ◌∙◌, arith}
use Rattle.std.specs.Prelude.{cond, if◌then◌else◌}
use Rattle.std.specs.List.{filter, list_all}
use Rattle.std.specs.List.Sorted.{IsPermutation}
use Rattle.std.proofs.lemmas.List.Sorted.{IsPermutation-refl, IsPermutation-middle, IsPermutation-sym, IsPermutation-trans}
use Rattle.sync_path.specs.Paths.{Node, same_path, comes_before}
use Rattle.sync_command.specs.Changes.{Change, is_down, goes_before, is_canonical}
use Rattle.sync_command.specs.Trees.{one_each}
use Rattle.canon_set.specs.Sets.{canonical}
use Rattle.refluent.specs.Picks.{place_in}
use Rattle.refluent.proofs.Listing.{parted}
use Rattle.canon_set.proofs.CallerLemmas.{command_at-canonical, is_canonical-canonical, one_each-canonical, one_each-permuted, command_at-permuted}
use Rattle.sync_command.proofs.CallerLemmas.{canonical_unique}
use Rattle.sync_path.proofs.CallerLemmas.{both, same_path_is, same_path_refl, before_irrefl}

-- ---- what holds of each command of a list

abbrev pub is_other : Change → Bool
is_other c = not (is_down c)

pair : (a b : Bool) → a ≡ true → b ≡ true → (a && b) ≡ true
pair a b e f = grind arith

pub all_of : (f g h k : Change → Bool) → ((x : Change) → f x ≡ true → g x ≡ true → h x ≡ true → k x ≡ true) → (xs : List Change) → list_all f xs ≡ true → list_all g xs ≡ true → list_all h xs ≡ true → list_all k xs ≡ true
all_of f g h k step [] a b c = refl
all_of f g h k step (x ∷ xs) a b c =
    let a' = both (f x) (list_all f xs) a in let b' = both (g x) (list_all g xs) b in let c' = both (h x) (list_all h xs) c in
    pair (k x) (list_all k xs) (step x a'.0 b'.0 c'.0) (all_of f g h k step xs a'.1 b'.1 c'.1)

pub all_filtered : (f g k : Change → Bool) → ((x : Change) → f x ≡ true → g x ≡ true → k x ≡ true) → (xs : List Change) → list_all f xs ≡ true → list_all k (filter g xs) ≡ true
all_filtered f g k step [] a = refl
all_filtered f g k step (x ∷ xs) a = let a' = both (f x) (list_all f xs) a in go (g x) refl a'.0 (all_filtered f g k step xs a'.1)
  where
    go : (b : Bool) → g x ≡ b → f x ≡ true → list_all k (filter g xs) ≡ true → list_all k (cond b (x ∷ filter g xs) (filter g xs)) ≡ true
    go true e h ih = pair (k x) (list_all k (filter g xs)) (step x h e) ih
    go false e h ih = ih

always : (xs : List Change) → list_all (λ x. true) xs ≡ true
always [] = refl
always (x ∷ xs) = always xs

pub all_appended : (f : Change → Bool) (xs ys : List Change) → list_all f (xs ++ ys) ≡ true → (list_all f xs ≡ true) × (list_all f ys ≡ true)
all_appended f [] ys e = (refl, e)
all_appended f (x ∷ xs) ys e = let h = both (f x) (list_all f (xs ++ ys)) e in let r = all_appended f xs ys h.1 in (pair (f x) (list_all f xs) h.0 r.0, r.1)

-- ---- commands in path order

-- each command is of a node that comes before those of all later ones
abbrev pub rises : List Change → Bool
rises [] = true
rises (c ∷ cs) = list_all (λ d. comes_before c.node d.node) cs && rises cs

pub rises-filter : (f : Change → Bool) (xs : List Change) → rises xs ≡ true → rises (filter f xs) ≡ true
rises-filter f [] e = refl
rises-filter f (x ∷ xs) e = let h = both (list_all (λ d. comes_before x.node d.node) xs) (rises xs) e in go (f x) (all_filtered (λ d. comes_before x.node d.node) f (λ d. comes_before x.node d.node) (λ y a b. a) xs h.0) (rises-filter f xs h.1)
  where
    go : (b : Bool) → list_all (λ d. comes_before x.node d.node) (filter f xs) ≡ true → rises (filter f xs) ≡ true → rises (cond b (x ∷ filter f xs) (filter f xs)) ≡ true
    go true a ih = pair _ _ a ih
    go false a ih = ih

-- a command between others: those before it are of earlier nodes, those after it of later ones
pub rises-split : (xs : List Change) (d : Change) (ys : List Change) → rises (xs ++ d ∷ ys) ≡ true → (list_all (λ c. comes_before c.node d.node) xs ≡ true) × (list_all (λ c. comes_before d.node c.node) ys ≡ true)
rises-split [] d ys e = (refl, (both (list_all (λ c. comes_before d.node c.node) ys) (rises ys) e).0)
rises-split (x ∷ xs) d ys e =
    let h = both (list_all (λ c. comes_before x.node c.node) (xs ++ d ∷ ys)) (rises (xs ++ d ∷ ys)) e in
    let r = rises-split xs d ys h.1 in
    let a = all_appended (λ c. comes_before x.node c.node) xs (d ∷ ys) h.0 in
    (pair _ _ (both (comes_before x.node d.node) (list_all (λ c. comes_before x.node c.node) ys) a.1).0 r.0, r.1)

-- ---- the canonical list of commands in path order: the down ones turned round, and then the others

abbrev pub onto : List Change → List Change → List Change
onto [] acc = acc
onto (d ∷ ds) acc = onto ds (d ∷ acc)

downs_before : (c d : Change) → is_down c ≡ true → is_down d ≡ true → comes_before d.node c.node ≡ true → goes_before c d ≡ true
downs_before c d e f g = go (is_down c) (is_down d) (comes_before d.node c.node) (comes_before c.node d.node) e f g
  where
    go : (a b x y : Bool) → a ≡ true → b ≡ true → x ≡ true → (if a then (if b then x else true) else (if b then false else y)) ≡ true
    go a b x y e f g = grind arith

others_before : (c d : Change) → is_other c ≡ true → is_other d ≡ true → comes_before c.node d.node ≡ true → goes_before c d ≡ true
others_before c d e f g = go (is_down c) (is_down d) (comes_before d.node c.node) (comes_before c.node d.node) e f g
  where
    go : (a b x y : Bool) → not a ≡ true → not b ≡ true → y ≡ true → (if a then (if b then x else true) else (if b then false else y)) ≡ true
    go a b x y e f g = grind arith

mixed_before : (c d : Change) → is_down c ≡ true → is_other d ≡ true → goes_before c d ≡ true
mixed_before c d e f = go (is_down c) (is_down d) (comes_before d.node c.node) (comes_before c.node d.node) e f
  where
    go : (a b x y : Bool) → a ≡ true → not b ≡ true → (if a then (if b then x else true) else (if b then false else y)) ≡ true
    go a b x y e f = grind arith

others_canonical : (xs : List Change) → rises xs ≡ true → is_canonical (filter is_other xs) ≡ true
others_canonical [] e = refl
others_canonical (x ∷ xs) e = let h = both (list_all (λ d. comes_before x.node d.node) xs) (rises xs) e in
    go (is_other x) refl (others_canonical xs h.1) (λ o. all_filtered (λ d. comes_before x.node d.node) is_other (goes_before x) (λ y a b. others_before x y o b a) xs h.0)
  where
    go : (b : Bool) → is_other x ≡ b → is_canonical (filter is_other xs) ≡ true → (is_other x ≡ true → list_all (goes_before x) (filter is_other xs) ≡ true) → is_canonical (cond b (x ∷ filter is_other xs) (filter is_other xs)) ≡ true
    go true e ih f = pair _ _ (f e) ih
    go false e ih f = ih

onto_canonical : (ds acc : List Change) → rises ds ≡ true → list_all is_down ds ≡ true → is_canonical acc ≡ true → list_all (λ x. list_all (goes_before x) acc) ds ≡ true → is_canonical (onto ds acc) ≡ true
onto_canonical [] acc r d c b = c
onto_canonical (x ∷ ds) acc r d c b =
    let r' = both (list_all (λ y. comes_before x.node y.node) ds) (rises ds) r in
    let d' = both (is_down x) (list_all is_down ds) d in
    let b' = both (list_all (goes_before x) acc) (list_all (λ y. list_all (goes_before y) acc) ds) b in
    onto_canonical ds (x ∷ acc) r'.1 d'.1 (pair _ _ b'.0 c)
    (all_of (λ y. comes_before x.node y.node) is_down (λ y. list_all (goes_before y) acc) (λ y. list_all (goes_before y) (x ∷ acc)) (λ y e f g. pair _ _ (downs_before y x f d'.0 e) g) ds r'.0 d'.1 b'.1)

onto_permuted : (ds acc : List Change) → IsPermutation (ds ++ acc) (onto ds acc)
onto_permuted [] acc = IsPermutation-refl acc
onto_permuted (d ∷ ds) acc = IsPermutation-trans (d ∷ (ds ++ acc)) (ds ++ d ∷ acc) (onto ds (d ∷ acc)) (IsPermutation-sym (ds ++ d ∷ acc) (d ∷ (ds ++ acc)) (IsPermutation-middle ds d acc)) (onto_permuted ds (d ∷ acc))

pub canonical_rising : (xs : List Change) → rises xs ≡ true → one_each xs ≡ true → canonical xs ≡ onto (filter is_down xs) (filter is_other xs)
canonical_rising xs r one =
    let made = onto (filter is_down xs) (filter is_other xs) in
    let moved = IsPermutation-trans xs (filter is_down xs ++ filter is_other xs) made (parted is_down xs) (onto_permuted (filter is_down xs) (filter is_other xs)) in
    canonical_unique (canonical xs) made (is_canonical-canonical xs one)
    (onto_canonical (filter is_down xs) (filter is_other xs) (rises-filter is_down xs r) (all_filtered (λ x. true) is_down is_down (λ x a b. b) xs (always xs)) (others_canonical xs r)
    (all_filtered (λ x. true) is_down (λ x. list_all (goes_before x) (filter is_other xs)) (λ x a b. all_filtered (λ y. true) is_other (goes_before x) (λ y c d. mixed_before x y b d) xs (always xs)) xs (always xs)))
    (one_each-canonical xs one) (one_each-permuted xs made one moved) (λ p. command_at-canonical xs one p ∙ sym (command_at-permuted xs made one moved p))

-- ---- places

abbrev is_apart_from : Node → Change → Bool
is_apart_from p c = not (same_path p c.node)

later_apart : (p : Node) (c : Change) → comes_before p c.node ≡ true → is_apart_from p c ≡ true
later_apart p c e = go (same_path p c.node) (λ s. ap (comes_before p) (sym (same_path_is p c.node s)) ∙ before_irrefl p) e
  where
    go : (b : Bool) → (b ≡ true → comes_before p c.node ≡ false) → comes_before p c.node ≡ true → not b ≡ true
    go true f g = let h : comes_before p c.node ≡ false = f refl in cc (g, h)
    go false f g = refl

earlier_apart : (p : Node) (c : Change) → comes_before c.node p ≡ true → is_apart_from p c ≡ true
earlier_apart p c e = go (same_path p c.node) (λ s. ap (comes_before c.node) (same_path_is p c.node s) ∙ before_irrefl c.node) e
  where
    go : (b : Bool) → (b ≡ true → comes_before c.node p ≡ false) → comes_before c.node p ≡ true → not b ≡ true
    go true f g = let h : comes_before c.node p ≡ false = f refl in cc (g, h)
    go false f g = refl

pub place_after : (xs ys : List Change) (p : Node) → list_all (is_apart_from p) xs ≡ true → place_in (xs ++ ys) p ≡ length xs + place_in ys p
place_after [] ys p e = omega arith
place_after (x ∷ xs) ys p e = let h = both (is_apart_from p x) (list_all (is_apart_from p) xs) e in go (is_apart_from p x) h.0 (place_after xs ys p h.1)
  where
    go : (b : Bool) → b ≡ true → place_in (xs ++ ys) p ≡ length xs + place_in ys p → cond b (1 + place_in (xs ++ ys) p) 0 ≡ suc (length xs) + place_in ys p
    go true e ih = omega (arith, ih)
    go false e ih = cc (e)

place_here : (d : Change) (ys : List Change) → same_path d.node d.node ≡ true → place_in (d ∷ ys) d.node ≡ 0
place_here d ys e = ap (λ b. cond (not b) (1 + place_in ys d.node) 0) e

onto_place : (ds acc : List Change) (p : Node) → list_all (is_apart_from p) ds ≡ true → place_in (onto ds acc) p ≡ length ds + place_in acc p
onto_place [] acc p e = omega arith
onto_place (d ∷ ds) acc p e = let h = both (is_apart_from p d) (list_all (is_apart_from p) ds) e in onto_place ds (d ∷ acc) p h.1 ∙ go (is_apart_from p d) h.0
  where
    go : (b : Bool) → b ≡ true → length ds + cond b (1 + place_in acc p) 0 ≡ suc (length ds) + place_in acc p
    go true e = omega arith
    go false e = cc (e)

onto-append : (xs ys acc : List Change) → onto (xs ++ ys) acc ≡ onto ys (onto xs acc)
onto-append [] ys acc = refl
onto-append (x ∷ xs) ys acc = onto-append xs ys (x ∷ acc)

pub filter-append : (f : Change → Bool) (xs ys : List Change) → filter f (xs ++ ys) ≡ filter f xs ++ filter f ys
filter-append f [] ys = refl
filter-append f (x ∷ xs) ys = go (f x) (filter-append f xs ys)
  where
    go : (b : Bool) → filter f (xs ++ ys) ≡ filter f xs ++ filter f ys → cond b (x ∷ filter f (xs ++ ys)) (filter f (xs ++ ys)) ≡ cond b (x ∷ filter f xs) (filter f xs) ++ filter f ys
    go true ih = ap (λ l. x ∷ l) ih
    go false ih = ih

filter-kept : (f : Change → Bool) (x : Change) (xs : List Change) → f x ≡ true → filter f (x ∷ xs) ≡ x ∷ filter f xs
filter-kept f x xs e = ap (λ b. cond b (x ∷ filter f xs) (filter f xs)) e

module _ (xs : List Change) (d : Change) (ys : List Change) (r : rises (xs ++ d ∷ ys) ≡ true) (one : one_each (xs ++ d ∷ ys) ≡ true) where
  -- a down command comes after the later down ones
  pub place_down : is_down d ≡ true → place_in (canonical (xs ++ d ∷ ys)) d.node ≡ length (filter is_down ys)
  place_down e =
      let f : filter is_down (xs ++ d ∷ ys) ≡ filter is_down xs ++ d ∷ filter is_down ys = filter-append is_down xs (d ∷ ys) ∙ ap (λ l. filter is_down xs ++ l) (filter-kept is_down d ys e) in
      let others = filter is_other (xs ++ d ∷ ys) in
      let made : place_in (canonical (xs ++ d ∷ ys)) d.node ≡ place_in (onto (filter is_down ys) (d ∷ onto (filter is_down xs) others)) d.node =
      ap (λ l. place_in l d.node) (canonical_rising (xs ++ d ∷ ys) r one ∙ ap (λ l. onto l others) f ∙ onto-append (filter is_down xs) (d ∷ filter is_down ys) others) in
      let moved = onto_place (filter is_down ys) (d ∷ onto (filter is_down xs) others) d.node (all_filtered (λ c. comes_before d.node c.node) is_down (is_apart_from d.node) (λ c a b. later_apart d.node c a) ys (rises-split xs d ys r).1) in
      let here = place_here d (onto (filter is_down xs) others) (same_path_refl d.node) in
      omega (arith, made, moved, here)

  -- every other command comes after all the down ones and the earlier others
  pub place_other : is_down d ≡ false → place_in (canonical (xs ++ d ∷ ys)) d.node ≡ length (filter is_down (xs ++ d ∷ ys)) + length (filter is_other xs)
  place_other e =
      let o : is_other d ≡ true = ap not e in
      let f : filter is_other (xs ++ d ∷ ys) ≡ filter is_other xs ++ d ∷ filter is_other ys = filter-append is_other xs (d ∷ ys) ∙ ap (λ l. filter is_other xs ++ l) (filter-kept is_other d ys o) in
      let downs = filter is_down (xs ++ d ∷ ys) in
      let g : downs ≡ filter is_down xs ++ filter is_down ys = filter-append is_down xs (d ∷ ys) ∙ ap (λ b. filter is_down xs ++ cond b (d ∷ filter is_down ys) (filter is_down ys)) e in
      let split = rises-split xs d ys r in
      let apart_xs : list_all (is_apart_from d.node) (filter is_down xs) ≡ true = all_filtered (λ c. comes_before c.node d.node) is_down (is_apart_from d.node) (λ c a b. earlier_apart d.node c a) xs split.0 in
      let apart_ys : list_all (is_apart_from d.node) (filter is_down ys) ≡ true = all_filtered (λ c. comes_before d.node c.node) is_down (is_apart_from d.node) (λ c a b. later_apart d.node c a) ys split.1 in
      let made : place_in (canonical (xs ++ d ∷ ys)) d.node ≡ place_in (onto downs (filter is_other xs ++ d ∷ filter is_other ys)) d.node = ap (λ l. place_in l d.node) (canonical_rising (xs ++ d ∷ ys) r one ∙ ap (onto downs) f) in
      let moved = onto_place downs (filter is_other xs ++ d ∷ filter is_other ys) d.node (ap (list_all (is_apart_from d.node)) g ∙ joined (is_apart_from d.node) (filter is_down xs) (filter is_down ys) apart_xs apart_ys) in
      let rest = place_after (filter is_other xs) (d ∷ filter is_other ys) d.node (all_filtered (λ c. comes_before c.node d.node) is_other (is_apart_from d.node) (λ c a b. earlier_apart d.node c a) xs split.0) in
      let here = place_here d (filter is_other ys) (same_path_refl d.node) in
      omega (arith, made, moved, rest, here)
    where
      joined : (f : Change → Bool) (us vs : List Change) → list_all f us ≡ true → list_all f vs ≡ true → list_all f (us ++ vs) ≡ true
      joined f [] vs a b = b
      joined f (u ∷ us) vs a b = let h = both (f u) (list_all f us) a in pair _ _ h.0 (joined f us vs h.1 b)
