-- The stages of a net set do not fall, so what a rule with a path names stands in two ranges of it.
use Rattle.std.proofs.Common.{◌≡◌, ℕ, zero, suc, ◌<◌, ◌≤◌, ◌+◌, ◌-◌, Bool, true, false, ◌||◌, List, [], ◌∷◌, ◌++◌, get_or, take, drop, length, Option, Some, None, refl, sym, ap, subst, ◌∙◌, arith, ◌⊎◌, inl, inr}
use Rattle.std.specs.Prelude.{if◌then◌else◌, slice_range}
use Rattle.std.specs.List.{slice_get, filter, list_all}
use Rattle.std.proofs.lemmas.List.{append-nil, take-append-drop}
use Rattle.std.proofs.lemmas.List.Folds.{drop_split}
use Rattle.std.proofs.lemmas.List.Elements.{filter-append}
use Rattle.std.proofs.lemmas.Option.{slice_get_cases}
use Rattle.std.proofs.lemmas.Bool.{cases_lt}
use Rattle.sync_path.specs.Paths.{Node, IsUnder, same_path, is_under, comes_before}
use Rattle.sync_path.proofs.CallerLemmas.{contiguous, under_after, under_is, both, before_asym, before_trans, before_irrefl, same_path_is, same_path_comm, before_total}
use Rattle.sync_command.specs.Changes.{Change, is_down, goes_before, is_canonical}
use Rattle.pref_list.specs.Stages.{is_within, stage_of, AreStaged, IsBound}
use Rattle.refluent.specs.declared.joint.Pick.{Pick}
use Rattle.pref_list.specs.Ranking.{set_of}
use Rattle.pref_list.specs.Orders.{TakesAll}
use Rattle.pref_list.proofs.Ordering.{drop_at, takes_then}

-- ---- where the nodes within a path stand

module _ (p : Node) (wide : Bool) (some : 0 < length p) where
  -- p, or what is under it where the rule is wide
  data Way (n : Node) : Type 0 where
    here : p ≡ n → Way n
    below : wide ≡ true → IsUnder n p → Way n

  way : (n : Node) → is_within p wide n ≡ true → Way n
  way n e = go wide refl e
    where
      either : wide ≡ true → (a : Bool) → (a ≡ true → p ≡ n) → (b : Bool) → (b ≡ true → IsUnder n p) → (a || b) ≡ true → Way n
      either w true f b g h = here (f refl)
      either w false f true g h = below w (g refl)
      either w false f false g h = cc (h)

      go : (w : Bool) → wide ≡ w → is_within p w n ≡ true → Way n
      go true w h = either w (same_path p n) (same_path_is p n) (is_under n p) (under_is n p some).0 h
      go false w h = here (same_path_is p n h)

  within_under : (n : Node) → wide ≡ true → IsUnder n p → is_within p wide n ≡ true
  within_under n w u = ap (λ b. is_within p b n) w ∙ right (same_path p n) (is_under n p) ((under_is n p some).1 u)
    where
      right : (a b : Bool) → b ≡ true → (a || b) ≡ true
      right a b e = grind arith

  never : (m n : Node) → comes_before m n ≡ true → comes_before n m ≡ true → ⊥
  never m n h g = let f : comes_before n m ≡ false = before_asym m n h in cc (g, f)

  -- nothing within comes before the path
  not_before : (n : Node) → is_within p wide n ≡ true → comes_before n p ≡ true → ⊥
  not_before n e h = go (way n e)
    where
      go : Way n → ⊥
      go (here s) = let f : comes_before n p ≡ false = ap (comes_before n) s ∙ before_irrefl n in cc (h, f)
      go (below w u) = never n p h (under_after n p u)

  -- what is between the path and something within is within
  between : (m n : Node) → is_within p wide n ≡ true → comes_before p m ≡ true → comes_before m n ≡ true → is_within p wide m ≡ true
  between m n e h g = go (way n e)
    where
      go : Way n → is_within p wide m ≡ true
      go (here s) = absurd (never p m h (ap (comes_before m) s ∙ g))
      go (below w u) = within_under m w (contiguous p m n u h g)

  -- what comes after something within comes after the path
  after : (m n : Node) → is_within p wide n ≡ true → comes_before n m ≡ true → comes_before p m ≡ true
  after m n e h = go (way n e)
    where
      go : Way n → comes_before p m ≡ true
      go (here s) = ap (λ x. comes_before x m) s ∙ h
      go (below w u) = before_trans p n m (under_after n p u) h

  not_same : (n : Node) → is_within p wide n ≡ false → same_path p n ≡ false
  not_same n e = go wide e
    where
      left : (a b : Bool) → (a || b) ≡ false → a ≡ false
      left true b e = cc (e)
      left false b e = refl

      go : (w : Bool) → is_within p w n ≡ false → same_path p n ≡ false
      go true e = left (same_path p n) (is_under n p) e
      go false e = e

  falls : (m n : Node) → comes_before n m ≡ true → (if is_within p wide m then 1 else if comes_before p m then 0 else 2) ≤ (if is_within p wide n then 1 else if comes_before p n then 0 else 2)
  falls m n h = go (is_within p wide m) (is_within p wide n) (comes_before p m) (comes_before p n) (λ e b. between n m e b h) (λ e. after m n e h) (λ b. before_trans p n m b h)
    where
      go : (wm wn bm bn : Bool) → (wm ≡ true → bn ≡ true → wn ≡ true) → (wn ≡ true → bm ≡ true) → (bn ≡ true → bm ≡ true) → (if wm then 1 else if bm then 0 else 2) ≤ (if wn then 1 else if bn then 0 else 2)
      go true true bm bn f g k = omega arith
      go true false bm true f g k = let e : false ≡ true = f refl refl in cc (e)
      go true false bm false f g k = omega arith
      go false wn true bn f g k = omega arith
      go false true false bn f g k = let e : false ≡ true = g refl in cc (e)
      go false false false true f g k = let e : false ≡ true = k refl in cc (e)
      go false false false false f g k = omega arith

  rises : (m n : Node) → comes_before m n ≡ true → (if is_within p wide m then 4 else if comes_before m p then 3 else 5) ≤ (if is_within p wide n then 4 else if comes_before n p then 3 else 5)
  rises m n h = go (is_within p wide m) refl (is_within p wide n) (comes_before m p) refl (comes_before n p) (λ e. not_before m e) (λ b. before_trans m n p h b) (λ e x. between m n e x h)
    where
      go : (wm : Bool) → is_within p wide m ≡ wm → (wn am : Bool) → comes_before m p ≡ am → (an : Bool) → (wm ≡ true → am ≡ true → ⊥) → (an ≡ true → am ≡ true) → (wn ≡ true → comes_before p m ≡ true → wm ≡ true) → (if wm then 4 else if am then 3 else 5) ≤ (if wn then 4 else if an then 3 else 5)
      go true e true am f an stop k b = omega arith
      go true e false am f true stop k b = absurd (stop refl (k refl))
      go true e false am f false stop k b = omega arith
      go false e true true f an stop k b = omega arith
      go false e false true f true stop k b = omega arith
      go false e false true f false stop k b = omega arith
      go false e true false f an stop k b = let late : comes_before p m ≡ true = before_total m p (flip (same_path_comm m p) (not_same m e)) f in let x : false ≡ true = b refl late in cc (x)
        where
          flip : same_path m p ≡ same_path p m → same_path p m ≡ false → same_path m p ≡ false
          flip c d = c ∙ d
      go false e false false f true stop k b = let x : false ≡ true = k refl in cc (x)
      go false e false false f false stop k b = omega arith

  -- what goes before in the admissible order is of no later stage
  pub stage_step : (c d : Change) → goes_before c d ≡ true → stage_of p wide c ≤ stage_of p wide d
  stage_step c d h = go (is_down c) (is_down d) h (falls c.node d.node) (rises c.node d.node)
    where
      low : (a b : Bool) → (if a then 1 else if b then 0 else 2) ≤ 3
      low true b = omega arith
      low false true = omega arith
      low false false = omega arith

      high : (a b : Bool) → 3 ≤ (if a then 4 else if b then 3 else 5)
      high true b = omega arith
      high false true = omega arith
      high false false = omega arith

      go : (x y : Bool) → (if x then (if y then comes_before d.node c.node else true) else (if y then false else comes_before c.node d.node)) ≡ true →
          (comes_before d.node c.node ≡ true → (if is_within p wide c.node then 1 else if comes_before p c.node then 0 else 2) ≤ (if is_within p wide d.node then 1 else if comes_before p d.node then 0 else 2)) →
          (comes_before c.node d.node ≡ true → (if is_within p wide c.node then 4 else if comes_before c.node p then 3 else 5) ≤ (if is_within p wide d.node then 4 else if comes_before d.node p then 3 else 5)) →
          (if x then (if is_within p wide c.node then 1 else if comes_before p c.node then 0 else 2) else (if is_within p wide c.node then 4 else if comes_before c.node p then 3 else 5))
          ≤ (if y then (if is_within p wide d.node then 1 else if comes_before p d.node then 0 else 2) else (if is_within p wide d.node then 4 else if comes_before d.node p then 3 else 5))
      go true true h f g = f h
      go true false h f g = let a = low (is_within p wide c.node) (comes_before p c.node) in let b = high (is_within p wide d.node) (comes_before d.node p) in omega arith
      go false true h f g = cc (h)
      go false false h f g = g h

all_get : (f : Change → Bool) (cs : List Change) → list_all f cs ≡ true → (i : ℕ) (c : Change) → slice_get cs i ≡ Some c → f c ≡ true
all_get f [] all i c e = cc (e)
all_get f (d ∷ cs) all zero c e = ap f (sym (same e)) ∙ (both (f d) (list_all f cs) all).0
  where
    same : Some d ≡ Some c → d ≡ c
    same e = cc
all_get f (d ∷ cs) all (suc i) c e = all_get f cs (both (f d) (list_all f cs) all).1 i c e

goes_get : (cs : List Change) → is_canonical cs ≡ true → (i j : ℕ) (c d : Change) → i < j → slice_get cs i ≡ Some c → slice_get cs j ≡ Some d → goes_before c d ≡ true
goes_get [] order i j c d less e f = cc (e)
goes_get (x ∷ cs) order i zero c d less e f = absurd (omega arith)
goes_get (x ∷ cs) order zero (suc j) c d less e f = ap (λ y. goes_before y d) (sym (same e)) ∙ all_get (goes_before x) cs (both (list_all (goes_before x) cs) (is_canonical cs) order).0 j d f
  where
    same : Some x ≡ Some c → x ≡ c
    same e = cc
goes_get (x ∷ cs) order (suc i) (suc j) c d less e f = goes_get cs (both (list_all (goes_before x) cs) (is_canonical cs) order).1 i j c d (omega arith) e f

pub staged : (p : Node) (wide : Bool) (cs : List Change) → 0 < length p → is_canonical cs ≡ true → AreStaged p wide cs
staged p wide cs some order i j c d less e f = stage_step p wide some c d (goes_get cs order i j c d less e f)

-- ---- the two ranges

filter_all : (q : Change → Bool) (xs : List Change) → ((i : ℕ) (c : Change) → slice_get xs i ≡ Some c → q c ≡ true) → filter q xs ≡ xs
filter_all q [] h = refl
filter_all q (x ∷ xs) h = ap (λ b. if b then x ∷ filter q xs else filter q xs) (h zero x refl) ∙ ap (λ l. x ∷ l) (filter_all q xs (λ i c e. h (suc i) c e))

filter_none : (q : Change → Bool) (xs : List Change) → ((i : ℕ) (c : Change) → slice_get xs i ≡ Some c → q c ≡ false) → filter q xs ≡ []
filter_none q [] h = refl
filter_none q (x ∷ xs) h = ap (λ b. if b then x ∷ filter q xs else filter q xs) (h zero x refl) ∙ filter_none q xs (λ i c e. h (suc i) c e)

take_at : (n : ℕ) (xs : List Change) (k : ℕ) (c : Change) → slice_get (take n xs) k ≡ Some c → (k < n) × (slice_get xs k ≡ Some c)
take_at zero xs k c e = cc (e)
take_at (suc n) [] k c e = cc (e)
take_at (suc n) (x ∷ xs) zero c e = (omega arith, e)
take_at (suc n) (x ∷ xs) (suc k) c e = let h = take_at n xs k c e in let l : k < n = h.0 in (omega arith, h.1)

range_at : (xs : List Change) (a b k : ℕ) (c : Change) → slice_get (slice_range xs a b) k ≡ Some c → (a ≤ a + k) × (a + k < b) × (slice_get xs (a + k) ≡ Some c)
range_at xs a b k c e = let h = take_at (b - a) (drop a xs) k c e in let low : k < b - a = h.0 in (omega arith, omega arith, sym (drop_at a xs k (a + k) refl) ∙ h.1)

-- a list in five parts
five : (xs : List Change) (a b c d : ℕ) → a ≤ b → b ≤ c → c ≤ d → xs ≡ take a xs ++ (slice_range xs a b ++ (slice_range xs b c ++ (slice_range xs c d ++ drop d xs)))
five xs a b c d x y z = sym (take-append-drop a xs) ∙ ap (λ l. take a xs ++ l) (drop_split xs a b x ∙ ap (λ l. slice_range xs a b ++ l) (drop_split xs b c y ∙ ap (λ l. slice_range xs b c ++ l) (drop_split xs c d z)))

module _ (p : Node) (wide : Bool) (cs : List Change) (a b c d : ℕ) (one : IsBound p wide cs 1 a) (two : IsBound p wide cs 2 b) (four : IsBound p wide cs 4 c) (last : IsBound p wide cs 5 d) where
  abbrev q : Change → Bool
  q x = is_within p wide x.node

  stage_low : (x : Change) → stage_of p wide x < 1 → is_within p wide x.node ≡ false
  stage_low x h = go (is_down x) (is_within p wide x.node) h
    where
      go : (u w : Bool) → (if u then (if w then 1 else if comes_before p x.node then 0 else 2) else (if w then 4 else if comes_before x.node p then 3 else 5)) < 1 → w ≡ false
      go true true h = absurd (omega arith)
      go true false h = refl
      go false true h = absurd (omega arith)
      go false false h = refl

  stage_one : (x : Change) → 1 ≤ stage_of p wide x → stage_of p wide x < 2 → is_within p wide x.node ≡ true
  stage_one x l h = go (is_down x) (is_within p wide x.node) (comes_before p x.node) (comes_before x.node p) l h
    where
      go : (u w b1 b2 : Bool) → 1 ≤ (if u then (if w then 1 else if b1 then 0 else 2) else (if w then 4 else if b2 then 3 else 5)) → (if u then (if w then 1 else if b1 then 0 else 2) else (if w then 4 else if b2 then 3 else 5)) < 2 → w ≡ true
      go u true b1 b2 l h = refl
      go true false true b2 l h = absurd (omega arith)
      go true false false b2 l h = absurd (omega arith)
      go false false b1 true l h = absurd (omega arith)
      go false false b1 false l h = absurd (omega arith)

  stage_two : (x : Change) → 2 ≤ stage_of p wide x → stage_of p wide x < 4 → is_within p wide x.node ≡ false
  stage_two x l h = go (is_down x) (is_within p wide x.node) l h
    where
      go : (u w : Bool) → 2 ≤ (if u then (if w then 1 else if comes_before p x.node then 0 else 2) else (if w then 4 else if comes_before x.node p then 3 else 5)) → (if u then (if w then 1 else if comes_before p x.node then 0 else 2) else (if w then 4 else if comes_before x.node p then 3 else 5)) < 4 → w ≡ false
      go true true l h = absurd (omega arith)
      go true false l h = refl
      go false true l h = absurd (omega arith)
      go false false l h = refl

  stage_four : (x : Change) → 4 ≤ stage_of p wide x → stage_of p wide x < 5 → is_within p wide x.node ≡ true
  stage_four x l h = go (is_down x) (is_within p wide x.node) (comes_before p x.node) (comes_before x.node p) l h
    where
      go : (u w b1 b2 : Bool) → 4 ≤ (if u then (if w then 1 else if b1 then 0 else 2) else (if w then 4 else if b2 then 3 else 5)) → (if u then (if w then 1 else if b1 then 0 else 2) else (if w then 4 else if b2 then 3 else 5)) < 5 → w ≡ true
      go u true b1 b2 l h = refl
      go true false true b2 l h = absurd (omega arith)
      go true false false b2 l h = absurd (omega arith)
      go false false b1 true l h = absurd (omega arith)
      go false false b1 false l h = absurd (omega arith)

  stage_high : (x : Change) → 5 ≤ stage_of p wide x → is_within p wide x.node ≡ false
  stage_high x l = go (is_down x) (is_within p wide x.node) l
    where
      go : (u w : Bool) → 5 ≤ (if u then (if w then 1 else if comes_before p x.node then 0 else 2) else (if w then 4 else if comes_before x.node p then 3 else 5)) → w ≡ false
      go true true l = absurd (omega arith)
      go true false l = refl
      go false true l = absurd (omega arith)
      go false false l = refl

  -- a bound of a later stage is no earlier
  later : (g h m n : ℕ) → g ≤ h → IsBound p wide cs g m → IsBound p wide cs h n → m ≤ n
  later g h m n le f k = go (cases_lt n m)
    where
      go : (n < m) ⊎ (m ≤ n) → m ≤ n
      go (inr e) = e
      go (inl less) = let low = f.low in find (slice_get cs n) refl (slice_get_cases cs n).1
        where
          find : (o : Option Change) → slice_get cs n ≡ o → ((x : Change) × (n < length cs) × (slice_get cs n ≡ Some x) × (get_or cs n x ≡ x)) ⊎ ((length cs ≤ n) × (slice_get cs n ≡ None)) → m ≤ n
          find o e (inl at) = let s : stage_of p wide at.0 < g = f.before n at.0 less at.2 in let t : h ≤ stage_of p wide at.0 = k.after n at.0 (omega arith) at.2 in absurd (omega (arith, s, t))
          find o e (inr past) = let l = past.0 in let low = f.low in absurd (omega arith)

  pub ranges : filter (λ x. is_within p wide x.node) cs ≡ slice_range cs a b ++ slice_range cs c d
  ranges =
      ap (filter q) (five cs a b c d (later 1 2 a b (omega arith) one two) (later 2 4 b c (omega arith) two four) (later 4 5 c d (omega arith) four last))
      ∙ filter-append q (take a cs) (slice_range cs a b ++ (slice_range cs b c ++ (slice_range cs c d ++ drop d cs)))
      ∙ ap (λ l. l ++ filter q (slice_range cs a b ++ (slice_range cs b c ++ (slice_range cs c d ++ drop d cs))))
      (filter_none q (take a cs) (λ i x e. let h = take_at a cs i x e in stage_low x (one.before i x h.0 h.1)))
      ∙ filter-append q (slice_range cs a b) (slice_range cs b c ++ (slice_range cs c d ++ drop d cs))
      ∙ ap (λ l. l ++ filter q (slice_range cs b c ++ (slice_range cs c d ++ drop d cs)))
      (filter_all q (slice_range cs a b) (λ i x e. let h = range_at cs a b i x e in stage_one x (one.after (a + i) x h.0 h.2) (two.before (a + i) x h.1 h.2)))
      ∙ ap (λ l. slice_range cs a b ++ l)
      (filter-append q (slice_range cs b c) (slice_range cs c d ++ drop d cs)
      ∙ ap (λ l. l ++ filter q (slice_range cs c d ++ drop d cs)) (filter_none q (slice_range cs b c) (λ i x e. let h = range_at cs b c i x e in stage_two x (two.after (b + i) x h.0 h.2) (four.before (b + i) x h.1 h.2)))
      ∙ filter-append q (slice_range cs c d) (drop d cs)
      ∙ ap (λ l. l ++ filter q (drop d cs)) (filter_all q (slice_range cs c d) (λ i x e. let h = range_at cs c d i x e in stage_four x (four.after (c + i) x h.0 h.2) (last.before (c + i) x h.1 h.2)))
      ∙ ap (λ l. slice_range cs c d ++ l) (filter_none q (drop d cs) (λ i x e. stage_high x (last.after (d + i) x (let l : d ≤ d + i = omega arith in l) (sym (drop_at d cs i (d + i) refl) ∙ e))))
      ∙ append-nil (slice_range cs c d))

  pub bounds_in_order : (a ≤ b) × (c ≤ d)
  bounds_in_order = (later 1 2 a b (omega arith) one two, later 4 5 c d (omega arith) four last)

pub taken_within : (sets : List (List Change)) (table : List Pick) (seen seen2 seen3 : List Bool) (picks picks2 picks3 : List Pick) (log : ℕ) (p : Node) (wide : Bool) (cs : List Change) (a b c d : ℕ) → cs ≡ set_of sets log →
    IsBound p wide cs 1 a → IsBound p wide cs 2 b → IsBound p wide cs 4 c → IsBound p wide cs 5 d →
    TakesAll sets table seen picks seen2 picks2 (slice_range (set_of sets log) a b) → TakesAll sets table seen2 picks2 seen3 picks3 (slice_range (set_of sets log) c d) →
    TakesAll sets table seen picks seen3 picks3 (filter (λ x. is_within p wide x.node) (set_of sets log))
taken_within sets table seen seen2 seen3 picks picks2 picks3 log p wide cs a b c d e one two four last f g =
    subst (TakesAll sets table seen picks seen3 picks3) (sym (ap (filter (λ x. is_within p wide x.node)) (sym e) ∙ ranges p wide cs a b c d one two four last ∙ ap (λ l. slice_range l a b ++ slice_range l c d) e))
    (takes_then sets table seen seen2 seen3 picks picks2 picks3 (slice_range (set_of sets log) a b) (slice_range (set_of sets log) c d) f g)
