-- The lists that are made of a table: what was pushed, and what is still to come.
use Rattle.std.proofs.Common.{◌≡◌, ◌++◌, ◌&&◌, ◌||◌, [], ◌∷◌, ℕ, Bool, true, false, not, List, Option, Some, None, cond, map, append_assoc, append-nil, refl, sym, ap, subst, ◌∙◌, arith}
use Rattle.std.specs.Prelude.{if◌then◌else◌, is_some, is_none}
use Rattle.std.specs.List.{filter}
use Rattle.std.specs.HashMap.{get, keys}
use Rattle.std.specs.Map.{keys_of, lookup}
use Rattle.sync_path.specs.Paths.{Node, same_path}
use Rattle.sync_path.specs.Order.{path_eq}
use Rattle.sync_path.proofs.CallerLemmas.{same_path_is}
use Rattle.sync_command.specs.Changes.{Change, is_change}
use Rattle.canon_set.specs.declared.table.Touched.{Touched}
use Rattle.canon_set.specs.declared.table.Table.{Table}
use Rattle.canon_set.specs.Logs.{names}
use Rattle.canon_set.specs.Leaving.{above}
use Rattle.sync_path.specs.Children.{has}
use Rattle.canon_set.specs.Touches.{change_of}
use Rattle.canon_set.specs.Sums.{Sum, StandsFor}
use Rattle.canon_set.specs.Tables.{place_of, is_over, touch_from, touches_in, children_of, entry_from, entry_at, is_untouched, IsKept}
use Rattle.canon_set.proofs.Standing.{over_here}
use Rattle.canon_set.proofs.Checks.{names_place}
use Rattle.canon_set.proofs.TableMaps.{eq_same}

module _ {A B : Type 0} (f : A → B) where
  pub list_first : (items : List B) (rest all : List A) → items ≡ [] → rest ≡ all → items ++ map f rest ≡ map f all
  list_first items rest all none is = (λ i. none i ++ map f (is i))

  pub list_turn : (items new : List B) (rest left : List A) (x : A) (all : List B) → rest ≡ x ∷ left → new ≡ items ++ f x ∷ [] → items ++ map f rest ≡ all → new ++ map f left ≡ all
  list_turn items new rest left x all is made so_far = ap (λ l. l ++ map f left) made ∙ append_assoc items (f x ∷ []) (map f left) ∙ ap (λ l. items ++ map f l) (sym is) ∙ so_far

  pub list_end : (items : List B) (rest : List A) (all : List B) → rest ≡ [] → items ++ map f rest ≡ all → items ≡ all
  list_end items rest all is so_far = sym (append-nil items) ∙ ap (λ l. items ++ map f l) (sym is) ∙ so_far

abbrev changes : List (Node × Touched) → List Change
changes es = filter is_change (map change_of (map touch_from es))

pub changes_first : (items : List Change) (rest all : List (Node × Touched)) → items ≡ [] → rest ≡ all → items ++ filter is_change (map change_of (map touch_from rest)) ≡ filter is_change (map change_of (map touch_from all))
changes_first items rest all none is = (λ i. none i ++ changes (is i))

pub changes_turn : (items new : List Change) (rest left : List (Node × Touched)) (x : Node × Touched) (all : List Change) → rest ≡ x ∷ left → new ≡ items ++ filter is_change (change_of (touch_from x) ∷ []) →
    items ++ filter is_change (map change_of (map touch_from rest)) ≡ all → new ++ filter is_change (map change_of (map touch_from left)) ≡ all
changes_turn items new rest left x all is made so_far = ap (λ l. l ++ changes left) made ∙ append_assoc items (filter is_change (change_of (touch_from x) ∷ [])) (changes left) ∙ ap (λ l. items ++ l) (go (is_change (change_of (touch_from x)))) ∙ ap (λ l. items ++ changes l) (sym is) ∙ so_far
  where
    go : (b : Bool) → (if b then change_of (touch_from x) ∷ [] else []) ++ changes left ≡ (if b then change_of (touch_from x) ∷ changes left else changes left)
    go true = refl
    go false = refl

pub changes_end : (items : List Change) (rest : List (Node × Touched)) (all : List Change) → rest ≡ [] → items ++ filter is_change (map change_of (map touch_from rest)) ≡ all → items ≡ all
changes_end items rest all is so_far = sym (append-nil items) ∙ ap (λ l. items ++ changes l) (sym is) ∙ so_far

-- the untouched ones of the nodes above touched ones
pub filter_more : {A B : Type 0} (f : A → Bool) (items new : List A) (xs : List (A × B)) (x : A × B) → f x.0 ≡ true → new ≡ items ++ x.0 ∷ [] → items ≡ filter f (map (λ e. e.0) xs) → new ≡ filter f (map (λ e. e.0) (xs ++ x ∷ []))
filter_more {A = A} {B = B} f items new xs x is made so_far = made ∙ ap (λ l. l ++ x.0 ∷ []) so_far ∙ sym (go xs)
  where
    go : (xs : List (A × B)) → filter f (map (λ e. e.0) (xs ++ x ∷ [])) ≡ filter f (map (λ e. e.0) xs) ++ x.0 ∷ []
    go [] = ap (λ b. if b then x.0 ∷ [] else []) is
    go (y ∷ ys) = step (f y.0) (go ys)
      where
        step : (b : Bool) → filter f (map (λ e. e.0) (ys ++ x ∷ [])) ≡ filter f (map (λ e. e.0) ys) ++ x.0 ∷ [] → (if b then y.0 ∷ filter f (map (λ e. e.0) (ys ++ x ∷ [])) else filter f (map (λ e. e.0) (ys ++ x ∷ []))) ≡ (if b then y.0 ∷ filter f (map (λ e. e.0) ys) else filter f (map (λ e. e.0) ys)) ++ x.0 ∷ []
        step true e = ap (λ l. y.0 ∷ l) e
        step false e = e

pub filter_same : {A B : Type 0} (f : A → Bool) (items : List A) (xs : List (A × B)) (x : A × B) → f x.0 ≡ false → items ≡ filter f (map (λ e. e.0) xs) → items ≡ filter f (map (λ e. e.0) (xs ++ x ∷ []))
filter_same {A = A} {B = B} f items xs x is so_far = so_far ∙ sym (go xs)
  where
    go : (xs : List (A × B)) → filter f (map (λ e. e.0) (xs ++ x ∷ [])) ≡ filter f (map (λ e. e.0) xs)
    go [] = ap (λ b. if b then x.0 ∷ [] else []) is
    go (y ∷ ys) = ap (λ l. if f y.0 then y.0 ∷ l else l) (go ys)

pub filter_all : {A B : Type 0} (f : A → Bool) (yielded all : List (A × B)) (items : List A) → map (λ y. y) yielded ≡ all → items ≡ filter f (map (λ e. e.0) yielded) → items ≡ filter f (map (λ e. e.0) all)
filter_all {A = A} {B = B} f yielded all items is made = made ∙ ap (λ l. filter f (map (λ e. e.0) l)) (sym (same yielded) ∙ is)
  where
    same : (xs : List (A × B)) → map (λ y. y) xs ≡ xs
    same [] = refl
    same (x ∷ xs) = ap (λ l. x ∷ l) (same xs)

has_filter : (f : Node → Bool) (ks : List Node) (p : Node) → has (filter f ks) p ≡ (f p && has ks p)
has_filter f [] p = go (f p)
  where
    go : (b : Bool) → false ≡ (b && false)
    go true = refl
    go false = refl
has_filter f (k ∷ ks) p = go (f k) (λ e. ap f (same_path_is p k e)) (has_filter f ks p)
  where
    kept : (s x h a : Bool) → (s ≡ true → x ≡ true) → a ≡ (x && h) → (s || a) ≡ (x && (s || h))
    kept s x h a same e = grind arith

    dropped : (s x h a : Bool) → (s ≡ true → x ≡ false) → a ≡ (x && h) → a ≡ (x && (s || h))
    dropped s x h a same e = grind arith

    go : (y : Bool) → (same_path p k ≡ true → f p ≡ y) → has (filter f ks) p ≡ (f p && has ks p) → has (if y then k ∷ filter f ks else filter f ks) p ≡ (f p && (same_path p k || has ks p))
    go true same ih = kept (same_path p k) (f p) (has ks p) (has (filter f ks) p) same ih
    go false same ih = dropped (same_path p k) (f p) (has ks p) (has (filter f ks) p) same ih

has_keys : (es : List (Node × ℕ)) (p : Node) → has (keys_of es) p ≡ is_some (lookup (path_eq p) es)
has_keys [] p = refl
has_keys (e ∷ es) p = (λ i. same_path p e.0 || has_keys es p i) ∙ go (same_path p e.0) ∙ ap (λ b. is_some (cond b (Some e.1) (lookup (path_eq p) es))) (sym (eq_same p e.0))
  where
    go : (b : Bool) → (b || is_some (lookup (path_eq p) es)) ≡ is_some (cond b (Some e.1) (lookup (path_eq p) es))
    go true = refl
    go false = refl

-- what is above touched nodes and not touched
pub untouched_above : (t : Table) (n : ℕ) (s : Sum) → record { count = n; touched = touches_in t } ≡ s → IsKept (record { count = n; touched = touches_in t }) (entry_at t) → (cs : List Change) → StandsFor s cs →
    (items : List Node) → items ≡ filter (is_untouched t) (keys t.above) → (p : Node) → has items p ≡ (above cs p && not (names cs p))
untouched_above t n s view k cs st items made p = ap (λ l. has l p) made ∙ has_filter (is_untouched t) (keys t.above) p ∙ ap (λ b. is_untouched t p && b) (has_keys t.above.entries p) ∙
    go (place_of (touches_in t) p) (get path_eq t.above p) (is_over (touches_in t) p) (k.known p) ∙ (λ i. over_here _ cs st' p i && not (names_place _ cs st' p i))
  where
    st' : StandsFor (record { count = n; touched = touches_in t }) cs
    st' = subst (λ x. StandsFor x cs) (sym view) st

    last : (b : Bool) → b ≡ (b && true)
    last true = refl
    last false = refl

    none : (b : Bool) → false ≡ (b && false)
    none true = refl
    none false = refl

    go : (o a : Option ℕ) (b : Bool) → is_some (entry_from o (children_of (get path_eq t.touched p)) a) ≡ (is_some o || b) → (is_none o && is_some a) ≡ (b && not (is_some o))
    go None None b e = e ∙ last b
    go None (Some m) b e = e ∙ last b
    go (Some i) a b e = none b
