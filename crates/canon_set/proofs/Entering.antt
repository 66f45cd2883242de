-- How nodes come into the table of a sum, and how the counts of children follow.
use Rattle.std.proofs.Common.{◌≡◌, ◌<◌, ◌≤◌, ◌+◌, ◌-◌, ℕ, length, Bool, true, false, not, ◌&&◌, ◌||◌, Option, Some, None, cond, refl, sym, ap, subst, ◌∙◌, arith, ◌⊎◌, inl, inr}
use Rattle.std.specs.Prelude.{if◌then◌else◌, is_some, is_none}
use mir.Val.{bool_byte}
use Rattle.std.specs.Ordering.{is_eq}
use Rattle.sync_path.specs.Paths.{Node, path_cmp, same_path, is_under, parent}
use Rattle.canon_set.specs.declared.table.Entry.{Entry}
use Rattle.canon_set.specs.Entries.{place_in, children_in, IsClosed, IsCounted, is_on_way, filled, Raises, Enters, Recounts, at_place}
use Rattle.sync_path.specs.Children.{IsChildCount}
use Rattle.sync_path.proofs.CallerLemmas.{HasParentUnder, closed_up, same_path_at, same_path_comm, same_path_is, same_path_refl, under_down, under_parent, under_shorter, under_split, count_same, count_more, count_less, count_empty}

some_node : {a b : Node} → Some a ≡ Some b → a ≡ b
some_node e = cc

both_ways : (a b : Bool) → (a ≡ true → b ≡ true) → (b ≡ true → a ≡ true) → a ≡ b
both_ways true b f g = sym (f refl)
both_ways false true f g = g refl
both_ways false false f g = refl

not_true : (b : Bool) → (b ≡ true → ⊥) → b ≡ false
not_true true f = absurd (f refl)
not_true false f = refl

-- what is above a path is its parent, or above that
under_way : (path up p : Node) → parent path ≡ Some up → is_under path p ≡ is_on_way up p
under_way path up p e = both_ways (is_under path p) (is_on_way up p) (λ u. down (under_split path p u)) (λ w. back (same_path p up) (same_path_is p up) w)
  where
    way : (a b : Bool) → (a ≡ true) ⊎ (b ≡ true) → (a || b) ≡ true
    way a b (inl e) = ap (λ x. x || b) e
    way true b (inr e) = refl
    way false b (inr e) = e

    down : HasParentUnder path p → is_on_way up p ≡ true
    down w = let is : w.up ≡ up = some_node (sym w.is ∙ e) in way _ _ (split is w.way)
      where
        split : w.up ≡ up → (w.up ≡ p) ⊎ (is_under w.up p ≡ true) → (same_path p up ≡ true) ⊎ (is_under up p ≡ true)
        split is (inl f) = inl (same_path_at p up (sym f ∙ is))
        split is (inr u) = inr (subst (λ r. is_under r p ≡ true) is u)

    back : (b : Bool) → (b ≡ true → p ≡ up) → (b || is_under up p) ≡ true → is_under path p ≡ true
    back true is h = subst (λ r. is_under path r ≡ true) (sym (is refl)) (under_parent up path e)
    back false is h = under_down path up p e h

root_under : (path p : Node) → parent path ≡ None → is_under path p ≡ false
root_under path p e = not_true (is_under path p) (λ u. clash (under_split path p u))
  where
    clash : HasParentUnder path p → ⊥
    clash w = let f : parent path ≡ Some w.up = w.is in cc (e, f)

-- what is above a child of q is not under q
child_above : (path q p : Node) → parent path ≡ Some q → parent p ≡ Some q → is_under path p ≡ false
child_above path q p e f = not_true (is_under path p) (λ u. clash (sym (under_way path q p e) ∙ u))
  where
    low : length q < length p
    low = under_shorter p q (under_parent q p f)

    clash : is_on_way q p ≡ true → ⊥
    clash w = go (same_path p q) (same_path_is p q) (is_under q p) (under_shorter q p) w
      where
        go : (a : Bool) → (a ≡ true → p ≡ q) → (b : Bool) → (b ≡ true → length p < length q) → (a || b) ≡ true → ⊥
        go true is b s h = let l : length p ≡ length q = ap length (is refl) in absurd (omega (arith, low))
        go false is b s h = let l : length p < length q = s h in absurd (omega (arith, low))

-- a child of another node is another node
other_child : (path q r p : Node) → parent path ≡ Some q → same_path r q ≡ false → parent p ≡ Some r → same_path p path ≡ false
other_child path q r p e apart f = not_true (same_path p path) (λ s. clash (some_node (sym f ∙ ap parent (same_path_is p path s) ∙ e)))
  where
    clash : r ≡ q → ⊥
    clash is = let s : same_path r q ≡ true = same_path_at r q is in cc (apart, s)

root_child : (path r p : Node) → parent path ≡ None → parent p ≡ Some r → same_path p path ≡ false
root_child path r p e f = not_true (same_path p path) (λ s. clash (ap parent (same_path_is p path s)))
  where
    clash : parent p ≡ parent path → ⊥
    clash is = let g : parent p ≡ None = is ∙ e in cc (f, g)

-- no node that is not in the table is full, and none under it is in the table
unknown_empty : (full : Node → Bool) (entry : Node → Option Entry) → IsCounted full entry → (p : Node) → entry p ≡ None → full p ≡ false
unknown_empty full entry c p none = not_true (full p) (λ f. clash (ap is_some none) (c.known p f))
  where
    clash : {b : Bool} → b ≡ false → b ≡ true → ⊥
    clash e f = cc (e, f)

unknown_below : (full : Node → Bool) (entry : Node → Option Entry) → IsCounted full entry → (q p : Node) → parent p ≡ Some q → entry q ≡ None → full p ≡ false
unknown_below full entry c q p e none = not_true (full p) (λ f. clash (ap is_some none) (c.closed q p e (c.known p f)))
  where
    clash : {b : Bool} → b ≡ false → b ≡ true → ⊥
    clash e f = cc (e, f)

pub known_above : (entry : Node → Option Entry) → IsClosed entry → (q p : Node) → is_some (entry q) ≡ true → is_under q p ≡ true → is_some (entry p) ≡ true
known_above entry closed q p known u = closed_up (λ r. is_some (entry r)) (λ r n e h. closed r n e h) q p u known

known_way : (entry : Node → Option Entry) → IsClosed entry → (path q p : Node) → parent path ≡ Some q → is_some (entry q) ≡ true → is_under path p ≡ true → is_some (entry p) ≡ true
known_way entry closed path q p e known u = go (same_path p q) (same_path_is p q) (sym (under_way path q p e) ∙ u)
  where
    go : (b : Bool) → (b ≡ true → p ≡ q) → (b || is_under q p) ≡ true → is_some (entry p) ≡ true
    go true is h = ap (λ r. is_some (entry r)) (is refl) ∙ known
    go false is h = known_above entry closed q p known h

pub flip_path : (path q : Node) → is_eq (path_cmp path q) ≡ same_path q path
unfolding same_path
flip_path path q = comm
  where
    comm : same_path path q ≡ same_path q path
    comm = same_path_comm path q

-- ---- the way above a node that comes into the table

off : (b : Bool) → b ≡ (b || false)
off true = refl
off false = refl

root_tally : (old : Node → Option Entry) (path : Node) (here : Bool) → parent path ≡ None → (full : Node → Bool) → IsCounted full old → (q : Node) → IsChildCount (filled full old path here) q (children_in (old q))
root_tally old path here root full c q = count_same full (filled full old path here) q (children_in (old q)) (c.tally q) (λ p e. away p (same_path p path) (root_child path q p root e))
  where
    away : (p : Node) (b : Bool) → b ≡ false → full p ≡ (if b then here else (full p || (is_none (old p) && is_under path p)))
    away p true e = cc (e)
    away p false e = let u : is_under path p ≡ false = root_under path p root in grind arith

pub raise_root : (old mid : Node → Option Entry) (path : Node) (here : Bool) → parent path ≡ None → ((p : Node) → mid p ≡ old p) → Raises old mid path here
raise_root old mid path here root same = record {
  places = λ p. ap place_in (same p);
  known = λ p. ap is_some (same p) ∙ off (is_some (old p)) ∙ ap (λ b. is_some (old p) || b) (sym (root_under path p root));
  few = λ p. low (children_in (mid p)) (children_in (old p)) (ap children_in (same p));
  counts = λ full c q apart. subst (λ o. IsChildCount (filled full old path here) q (children_in o)) (sym (same q)) (root_tally old path here root full c q);
}
  where
    low : (m n : ℕ) → m ≡ n → m ≤ n + 1
    low m n e = omega arith

module _ (old mid : Node → Option Entry) (path q : Node) (here : Bool) (up : parent path ≡ Some q) (unknown : old path ≡ None) where
  -- the parent is in the table
  pub raise_known : IsClosed old → is_some (old q) ≡ true → ((p : Node) → place_in (mid p) ≡ place_in (old p)) → ((p : Node) → is_some (mid p) ≡ is_some (old p)) → ((p : Node) → same_path p q ≡ false → children_in (mid p) ≡ children_in (old p)) → children_in (mid q) ≡ children_in (old q) + bool_byte here → Raises old mid path here
  raise_known closed known places knowns others own = record {
    places = places;
    known = λ p. knowns p ∙ wide (is_some (old p)) (is_under path p) (known_way old closed path q p up known);
    few = λ p. low p (same_path p q) (same_path_is p q) (others p);
    counts = λ full c r apart. count full c r (same_path r q) (same_path_is r q) (λ e. e);
  }
    where
      wide : (a b : Bool) → (b ≡ true → a ≡ true) → a ≡ (a || b)
      wide a b f = grind arith

      step : (b : Bool) (m n : ℕ) → m ≡ n + bool_byte b → m ≤ n + 1
      step true m n e = omega arith
      step false m n e = omega arith

      less : (m n : ℕ) → m ≡ n → m ≤ n + 1
      less m n e = omega arith

      low : (p : Node) (b : Bool) → (b ≡ true → p ≡ q) → (b ≡ false → children_in (mid p) ≡ children_in (old p)) → children_in (mid p) ≤ children_in (old p) + 1
      low p true is same = subst (λ r. children_in (mid r) ≤ children_in (old r) + 1) (sym (is refl)) (step here (children_in (mid q)) (children_in (old q)) own)
      low p false is same = less (children_in (mid p)) (children_in (old p)) (same refl)

      -- but for the path nothing changes
      same_but : (full : Node → Bool) (p : Node) → same_path p path ≡ false → full p ≡ filled full old path here p
      same_but full p apart = go (same_path p path) apart (old p) refl (is_under path p) (known_way old closed path q p up known)
        where
          go : (b : Bool) → b ≡ false → (o : Option Entry) → old p ≡ o → (u : Bool) → (u ≡ true → is_some (old p) ≡ true) → full p ≡ (if b then here else (full p || (is_none o && u)))
          go true e o f u h = cc (e)
          go false e None f true h = let a : is_some (old p) ≡ true = h refl in let b : is_some (old p) ≡ false = ap is_some f in cc (a, b)
          go false e None f false h = grind arith
          go false e (Some s) f u h = grind arith

      at_path : (full : Node → Bool) → filled full old path here path ≡ here
      at_path full = ap (λ b. if b then here else (full path || (is_none (old path) && is_under path path))) (same_path_refl path)

      at_q : (full : Node → Bool) → IsCounted full old → (b : Bool) → here ≡ b → IsChildCount (filled full old path here) q (children_in (old q) + bool_byte b)
      at_q full c true e = count_more full (filled full old path here) q path (children_in (old q)) (c.tally q) up (unknown_empty full old c path unknown) (at_path full ∙ e) (same_but full)
      at_q full c false e = subst (λ n. IsChildCount (filled full old path here) q n) plus (count_same full (filled full old path here) q (children_in (old q)) (c.tally q) (λ p f. each p (same_path p path) refl (same_path_is p path)))
        where
          plus : children_in (old q) ≡ children_in (old q) + 0
          plus = omega arith

          each : (p : Node) (b : Bool) → same_path p path ≡ b → (b ≡ true → p ≡ path) → full p ≡ filled full old path here p
          each p true s is = ap full (is refl) ∙ unknown_empty full old c path unknown ∙ sym e ∙ sym (at_path full) ∙ ap (filled full old path here) (sym (is refl))
          each p false s is = same_but full p s

      count : (full : Node → Bool) → IsCounted full old → (r : Node) (b : Bool) → (b ≡ true → r ≡ q) → (same_path r q ≡ b → same_path r q ≡ b) → IsChildCount (filled full old path here) r (children_in (mid r))
      count full c r b is e = go (same_path r q) refl (same_path_is r q)
        where
          go : (b : Bool) → same_path r q ≡ b → (b ≡ true → r ≡ q) → IsChildCount (filled full old path here) r (children_in (mid r))
          go true s is = subst (λ x. IsChildCount (filled full old path here) x (children_in (mid x))) (sym (is refl)) (subst (λ n. IsChildCount (filled full old path here) q n) (sym own) (at_q full c here refl))
          go false s is = subst (λ n. IsChildCount (filled full old path here) r n) (sym (others r s)) (count_same full (filled full old path here) r (children_in (old r)) (c.tally r) (λ p f. same_but full p (other_child path q r p up s f)))

  -- the same, by a write to the parent's entry
  pub raise_write : IsClosed old → (s v : Entry) → Some s ≡ old q → ((p : Node) → mid p ≡ cond (is_eq (path_cmp q p)) (Some v) (old p)) → v.place ≡ s.place → v.children ≡ s.children + bool_byte here → Raises old mid path here
  raise_write closed s v at put place kids = raise_known closed (ap is_some (sym at)) (λ p. keeps p (same_path p q) refl) (λ p. knows p (same_path p q) refl) (λ p apart. ap children_in (other p apart)) (ap children_in own ∙ kids ∙ ap (λ o. children_in o + bool_byte here) at)
    where
      own : mid q ≡ Some v
      own = put q ∙ ap (λ b. cond b (Some v) (old q)) (flip_path q q ∙ same_path_refl q)

      other : (p : Node) → same_path p q ≡ false → mid p ≡ old p
      other p apart = put p ∙ ap (λ b. cond b (Some v) (old p)) (flip_path q p ∙ apart)

      keeps : (p : Node) (b : Bool) → same_path p q ≡ b → place_in (mid p) ≡ place_in (old p)
      keeps p true e = let is : p ≡ q = same_path_is p q e in subst (λ r. place_in (mid r) ≡ place_in (old r)) (sym is) (ap place_in own ∙ place ∙ ap place_in at)
      keeps p false e = ap place_in (other p e)

      knows : (p : Node) (b : Bool) → same_path p q ≡ b → is_some (mid p) ≡ is_some (old p)
      knows p true e = let is : p ≡ q = same_path_is p q e in subst (λ r. is_some (mid r) ≡ is_some (old r)) (sym is) (ap is_some own ∙ ap is_some at)
      knows p false e = ap is_some (other p e)

  -- the parent comes into the table too
  pub raise_new : old q ≡ None → (entry : Entry) → entry.place ≡ None → entry.children ≡ bool_byte here → Enters old mid q entry true → Raises old mid path here
  raise_new none entry nowhere kids w = record {
    places = λ p. place p (same_path p q) (same_path_is p q) (w.places p);
    known = λ p. w.known p ∙ ap (λ b. is_some (old p) || b) (sym (under_way path q p up));
    few = λ p. few p (same_path p q) (same_path_is p q) (w.few p);
    counts = λ full c r apart. count full c r (same_path r q) (same_path_is r q) (w.counts full c r);
  }
    where
      place : (p : Node) (b : Bool) → (b ≡ true → p ≡ q) → (b ≡ false → place_in (mid p) ≡ place_in (old p)) → place_in (mid p) ≡ place_in (old p)
      place p true is same = subst (λ r. place_in (mid r) ≡ place_in (old r)) (sym (is refl)) (ap place_in w.at ∙ nowhere ∙ sym (ap place_in none))
      place p false is same = same refl

      step : (b : Bool) (m n k : ℕ) → m ≡ k → k ≡ bool_byte b → m ≤ n + 1
      step true m n k e f = omega arith
      step false m n k e f = omega arith

      few : (p : Node) (b : Bool) → (b ≡ true → p ≡ q) → (b ≡ false → children_in (mid p) ≤ children_in (old p) + 1) → children_in (mid p) ≤ children_in (old p) + 1
      few p true is low = subst (λ r. children_in (mid r) ≤ children_in (old r) + 1) (sym (is refl)) (step here (children_in (mid q)) (children_in (old q)) entry.children (ap children_in w.at) kids)
      few p false is low = low refl

      at_path : (full : Node → Bool) → filled full old path here path ≡ here
      at_path full = ap (λ b. if b then here else (full path || (is_none (old path) && is_under path path))) (same_path_refl path)

      -- a child of the parent that is not the path is empty
      beside : (full : Node → Bool) → IsCounted full old → (p : Node) → parent p ≡ Some q → same_path p path ≡ false → false ≡ filled full old path here p
      beside full c p f apart = go (same_path p path) apart (full p) (unknown_below full old c q p f none) (is_under path p) (child_above path q p up f)
        where
          go : (b : Bool) → b ≡ false → (x : Bool) → x ≡ false → (u : Bool) → u ≡ false → false ≡ (if b then here else (x || (is_none (old p) && u)))
          go b e x f u g = grind arith

      at_q : (full : Node → Bool) → IsCounted full old → (b : Bool) → here ≡ b → IsChildCount (filled full old path here) q (bool_byte b)
      at_q full c false e = count_empty (filled full old path here) q (λ p f. each p f (same_path p path) refl (same_path_is p path))
        where
          each : (p : Node) → parent p ≡ Some q → (b : Bool) → same_path p path ≡ b → (b ≡ true → p ≡ path) → filled full old path here p ≡ false
          each p f true s is = ap (filled full old path here) (is refl) ∙ at_path full ∙ e
          each p f false s is = sym (beside full c p f s)
      at_q full c true e = count_more (λ p. filled full old path here p && not (same_path p path)) (filled full old path here) q path 0 (count_empty _ q (λ p f. empty p f (same_path p path) refl)) up own (at_path full ∙ e) (λ p s. other (filled full old path here p) (same_path p path) s)
        where
          empty : (p : Node) → parent p ≡ Some q → (b : Bool) → same_path p path ≡ b → (filled full old path here p && not (same_path p path)) ≡ false
          empty p f true s = ap (λ b. filled full old path here p && not b) s ∙ none_of (filled full old path here p)
            where
              none_of : (x : Bool) → (x && false) ≡ false
              none_of x = grind arith
          empty p f false s = ap (λ x. x && not (same_path p path)) (sym (beside full c p f s))

          own : (filled full old path here path && not (same_path path path)) ≡ false
          own = ap (λ b. filled full old path here path && not b) (same_path_refl path) ∙ none_of (filled full old path here path)
            where
              none_of : (x : Bool) → (x && false) ≡ false
              none_of x = grind arith

          other : (x b : Bool) → b ≡ false → (x && not b) ≡ x
          other x b e = grind arith

      count : (full : Node → Bool) → IsCounted full old → (r : Node) (b : Bool) → (b ≡ true → r ≡ q) → (same_path r q ≡ false → IsChildCount (filled full old q true) r (children_in (mid r))) → IsChildCount (filled full old path here) r (children_in (mid r))
      count full c r b is rest = go (same_path r q) refl (same_path_is r q)
        where
          go : (b : Bool) → same_path r q ≡ b → (b ≡ true → r ≡ q) → IsChildCount (filled full old path here) r (children_in (mid r))
          go true s is = subst (λ x. IsChildCount (filled full old path here) x (children_in (mid x))) (sym (is refl)) (subst (λ n. IsChildCount (filled full old path here) q n) (sym (ap children_in w.at ∙ kids)) (at_q full c here refl))
          go false s is = count_same (filled full old q true) (filled full old path here) r (children_in (mid r)) (rest s) (λ p f. each p (same_path p path) (other_child path q r p up s f) (same_path p q) (same_path_is p q) (is_under path p) (under_way path q p up))
            where
              each : (p : Node) (a : Bool) → a ≡ false → (b : Bool) → (b ≡ true → p ≡ q) → (u : Bool) → u ≡ (b || is_under q p) → (if b then true else (full p || (is_none (old p) && is_under q p))) ≡ (if a then here else (full p || (is_none (old p) && u)))
              each p true e b is u f = cc (e)
              each p false e true is u f = let gone : old p ≡ None = ap old (is refl) ∙ none in all (full p) (old p) gone u f
                where
                  all : (x : Bool) (o : Option Entry) → o ≡ None → (u : Bool) → u ≡ true → true ≡ (x || (is_none o && u))
                  all x o e u f = grind arith
              each p false e false is u f = ap (λ v. full p || (is_none (old p) && v)) (sym f)

-- the node itself comes in
pub enter_made : (old mid new : Node → Option Entry) (path : Node) (entry : Entry) (here : Bool) → Raises old mid path here → ((p : Node) → new p ≡ cond (is_eq (path_cmp path p)) (Some entry) (mid p)) → Enters old new path entry here
enter_made old mid new path entry here w put = record {
  at = put path ∙ ap (λ b. cond b (Some entry) (mid path)) (flip_path path path ∙ same_path_refl path);
  places = λ p apart. ap place_in (other p apart) ∙ w.places p;
  known = λ p. known p (same_path p path) refl (w.known p);
  few = λ p apart. subst (λ o. children_in o ≤ children_in (old p) + 1) (sym (other p apart)) (w.few p);
  counts = λ full c q apart. subst (λ o. IsChildCount (filled full old path here) q (children_in o)) (sym (other q apart)) (w.counts full c q apart);
}
  where
    other : (p : Node) → same_path p path ≡ false → new p ≡ mid p
    other p apart = put p ∙ ap (λ b. cond b (Some entry) (mid p)) (flip_path path p ∙ apart)

    known : (p : Node) (b : Bool) → same_path p path ≡ b → is_some (mid p) ≡ (is_some (old p) || is_under path p) → is_some (new p) ≡ (is_some (old p) || (same_path p path || is_under path p))
    known p true s e = ap is_some (put p ∙ ap (λ b. cond b (Some entry) (mid p)) (flip_path path p ∙ s)) ∙ sym (ap (λ b. is_some (old p) || (b || is_under path p)) s ∙ all (is_some (old p)))
      where
        all : (a : Bool) → (a || true) ≡ true
        all a = grind arith
    known p false s e = ap is_some (other p s) ∙ e ∙ ap (λ b. is_some (old p) || (b || is_under path p)) (sym s)

-- ---- a node of the table becomes full or not

same_low : (m n : ℕ) → m ≡ n → m ≤ n + 1
same_low m n e = omega arith

-- what is full stays so
pub recount_same : (old new : Node → Option Entry) (path : Node) (was here : Bool) → was ≡ here → is_some (old path) ≡ true → ((p : Node) → new p ≡ old p) → Recounts old new path was here
recount_same old new path was here level known same = record {
  places = λ p. ap place_in (same p);
  known = λ p. ap is_some (same p);
  few = λ p. same_low (children_in (new p)) (children_in (old p)) (ap children_in (same p));
  counts = λ full c held q. subst (λ o. IsChildCount (filled full old path here) q (children_in o)) (sym (same q)) (count_same full (filled full old path here) q (children_in (old q)) (c.tally q) (λ p e. each full c held p (same_path p path) (same_path_is p path) (old p) refl (is_under path p) (known_above old c.closed path p known)));
}
  where
    each : (full : Node → Bool) → IsCounted full old → full path ≡ was → (p : Node) (b : Bool) → (b ≡ true → p ≡ path) → (o : Option Entry) → old p ≡ o → (u : Bool) → (u ≡ true → is_some (old p) ≡ true) → full p ≡ (if b then here else (full p || (is_none o && u)))
    each full c held p true is o e u f = ap full (is refl) ∙ held ∙ level
    each full c held p false is None e true f = let a : is_some (old p) ≡ true = f refl in let b : is_some (old p) ≡ false = ap is_some e in cc (a, b)
    each full c held p false is None e false f = grind arith
    each full c held p false is (Some s) e u f = grind arith

pub recount_root : (old new : Node → Option Entry) (path : Node) (was here : Bool) → parent path ≡ None → ((p : Node) → new p ≡ old p) → Recounts old new path was here
recount_root old new path was here root same = record {
  places = w.places;
  known = λ p. ap is_some (same p);
  few = w.few;
  counts = λ full c turns q. subst (λ o. IsChildCount (filled full old path here) q (children_in o)) (sym (same q)) (root_tally old path here root full c q);
}
  where
    w : Raises old new path here
    w = raise_root old new path here root same

module _ (old new : Node → Option Entry) (path q : Node) (was here : Bool) (up : parent path ≡ Some q) (known : is_some (old path) ≡ true) where
  pub recount_none : None ≡ old q → ((p : Node) → new p ≡ old p) → Recounts old new path was here
  recount_none none same = record {
    places = λ p. ap place_in (same p);
    known = λ p. ap is_some (same p);
    few = λ p. low (children_in (new p)) (children_in (old p)) (ap children_in (same p));
    counts = λ full c turns r. clash (c.closed q path up known) (ap is_some none);
  }
    where
      low : (m n : ℕ) → m ≡ n → m ≤ n + 1
      low m n e = omega arith

      clash : {A : Type 0} {b : Bool} → b ≡ true → false ≡ b → A
      clash e f = cc (e, f)

  pub recount_write : (s v : Entry) → Some s ≡ old q → ((p : Node) → new p ≡ cond (is_eq (path_cmp q p)) (Some v) (old p)) → v.place ≡ s.place → v.children ≡ (if here then s.children + 1 else s.children - 1) → was ≡ not here → Recounts old new path was here
  recount_write s v at put place kids turned = record {
    places = λ p. keeps p (same_path p q) refl;
    known = λ p. knows p (same_path p q) refl;
    few = λ p. low p (same_path p q) refl;
    counts = λ full c turns r. count full c turns r (same_path r q) refl;
  }
    where
      own : new q ≡ Some v
      own = put q ∙ ap (λ b. cond b (Some v) (old q)) (flip_path q q ∙ same_path_refl q)

      other : (p : Node) → same_path p q ≡ false → new p ≡ old p
      other p apart = put p ∙ ap (λ b. cond b (Some v) (old p)) (flip_path q p ∙ apart)

      keeps : (p : Node) (b : Bool) → same_path p q ≡ b → place_in (new p) ≡ place_in (old p)
      keeps p true e = let is : p ≡ q = same_path_is p q e in subst (λ r. place_in (new r) ≡ place_in (old r)) (sym is) (ap place_in own ∙ place ∙ ap place_in at)
      keeps p false e = ap place_in (other p e)

      knows : (p : Node) (b : Bool) → same_path p q ≡ b → is_some (new p) ≡ is_some (old p)
      knows p true e = let is : p ≡ q = same_path_is p q e in subst (λ r. is_some (new r) ≡ is_some (old r)) (sym is) (ap is_some own ∙ ap is_some at)
      knows p false e = ap is_some (other p e)

      step : (b : Bool) (m n : ℕ) → m ≡ (if b then n + 1 else n - 1) → m ≤ n + 1
      step true m n e = omega arith
      step false m n e = omega arith

      less : (m n : ℕ) → m ≡ n → m ≤ n + 1
      less m n e = omega arith

      low : (p : Node) (b : Bool) → same_path p q ≡ b → children_in (new p) ≤ children_in (old p) + 1
      low p true e = subst (λ r. children_in (new r) ≤ children_in (old r) + 1) (sym (same_path_is p q e)) (step here (children_in (new q)) (children_in (old q)) (ap children_in own ∙ kids ∙ ap (λ n. if here then n + 1 else n - 1) (ap children_in at)))
      low p false e = less (children_in (new p)) (children_in (old p)) (ap children_in (other p e))

      at_path : (full : Node → Bool) → filled full old path here path ≡ here
      at_path full = ap (λ b. if b then here else (full path || (is_none (old path) && is_under path path))) (same_path_refl path)

      same_but : (full : Node → Bool) → IsCounted full old → (p : Node) → same_path p path ≡ false → full p ≡ filled full old path here p
      same_but full c p apart = go (same_path p path) apart (old p) refl (is_under path p) (known_above old c.closed path p known)
        where
          go : (b : Bool) → b ≡ false → (o : Option Entry) → old p ≡ o → (u : Bool) → (u ≡ true → is_some (old p) ≡ true) → full p ≡ (if b then here else (full p || (is_none o && u)))
          go true e o f u h = cc (e)
          go false e None f true h = let a : is_some (old p) ≡ true = h refl in let b : is_some (old p) ≡ false = ap is_some f in cc (a, b)
          go false e None f false h = grind arith
          go false e (Some s) f u h = grind arith

      at_q : (full : Node → Bool) → IsCounted full old → full path ≡ was → (b : Bool) → here ≡ b → IsChildCount (filled full old path here) q (if b then s.children + 1 else s.children - 1)
      at_q full c turns true e = subst (λ n. IsChildCount (filled full old path here) q (n + 1)) (ap children_in (sym at)) (count_more full (filled full old path here) q path (children_in (old q)) (c.tally q) up (turns ∙ turned ∙ ap not e) (at_path full ∙ e) (same_but full c))
      at_q full c turns false e = subst (λ n. IsChildCount (filled full old path here) q (n - 1)) (ap children_in (sym at)) (count_less full (filled full old path here) q path (children_in (old q)) (c.tally q) up (turns ∙ turned ∙ ap not e) (at_path full ∙ e) (same_but full c))

      count : (full : Node → Bool) → IsCounted full old → full path ≡ was → (r : Node) (b : Bool) → same_path r q ≡ b → IsChildCount (filled full old path here) r (children_in (new r))
      count full c turns r true e = subst (λ x. IsChildCount (filled full old path here) x (children_in (new x))) (sym (same_path_is r q e)) (subst (λ n. IsChildCount (filled full old path here) q n) (sym (ap children_in own ∙ kids)) (at_q full c turns here refl))
      count full c turns r false e = subst (λ n. IsChildCount (filled full old path here) r n) (sym (ap children_in (other r e))) (count_same full (filled full old path here) r (children_in (old r)) (c.tally r) (λ p f. same_but full c p (other_child path q r p up e f)))

-- ---- a place is given

pub place_given : (old new : Node → Option Entry) (path : Node) (k : ℕ) (s : Entry) → Some s ≡ old path → ((p : Node) → new p ≡ cond (is_eq (path_cmp path p)) (Some (record { place = Some k; children = s.children })) (old p)) → (p : Node) → new p ≡ (if same_path p path then at_place k (old p) else old p)
place_given old new path k s at put p = put p ∙ ap (λ b. cond b (Some (record { place = Some k; children = s.children })) (old p)) (flip_path path p) ∙ go (same_path p path) (same_path_is p path)
  where
    go : (b : Bool) → (b ≡ true → p ≡ path) → cond b (Some (record { place = Some k; children = s.children })) (old p) ≡ (if b then at_place k (old p) else old p)
    go true is = sym (ap (at_place k) (ap old (is refl) ∙ sym at))
    go false is = refl

pub place_kept : (old new : Node → Option Entry) (path : Node) (k : ℕ) → None ≡ old path → ((p : Node) → new p ≡ old p) → (p : Node) → new p ≡ (if same_path p path then at_place k (old p) else old p)
place_kept old new path k none same p = same p ∙ go (same_path p path) (same_path_is p path)
  where
    go : (b : Bool) → (b ≡ true → p ≡ path) → old p ≡ (if b then at_place k (old p) else old p)
    go true is = ap old (is refl) ∙ sym none ∙ sym (ap (at_place k) (ap old (is refl) ∙ sym none))
    go false is = refl
