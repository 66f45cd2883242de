-- What a ranking has so far.
use Rattle.std.proofs.Common.{◌≡◌, ℕ, zero, suc, ◌<◌, ◌≤◌, ◌+◌, ◌-◌, Bool, true, false, not, ◌||◌, List, [], ◌∷◌, ◌++◌, get_or, take, drop, map, length, append_assoc, Option, Some, None, refl, sym, ap, subst, ◌∙◌, arith, ◌⊎◌, inl, inr}
use Rattle.std.specs.Prelude.{if◌then◌else◌, slice_set, slice_range, Vec}
use Rattle.std.specs.Global.{Global}
use Rattle.std.specs.List.{slice_get, filter}
use Rattle.std.proofs.lemmas.Option.{slice_get_within, slice_get-get_or, slice_get_read, slice_get_cases, get_or_from_slice_get}
use Rattle.std.proofs.lemmas.List.{length-set, append-nil}
use Rattle.std.proofs.lemmas.List.Elements.{filter-append}
use Rattle.std.proofs.lemmas.Bool.{cases_lt}
use Rattle.std.proofs.Math.Seq.{take-suc}
use Rattle.sync_command.specs.Changes.{Change, same_change}
use Rattle.refluent.specs.Sets.{is_in, without_repeats, differs_from}
use Rattle.refluent.specs.declared.joint.Pick.{Pick}
use Rattle.refluent.proofs.CallerLemmas.{same_change_is, same_change_at, is_in-append}
use Rattle.pref_list.specs.Picks.{command_of, log_of}
use Rattle.pref_list.specs.Ranking.{set_of}
use Rattle.pref_list.specs.Numbers.{AreDifferent, AreLeast, AreNumbersOf, AreNumbered, numbered}
use Rattle.pref_list.specs.Orders.{IsOrderOf, Takes, TakesAll}
use Rattle.pref_list.proofs.Ends.{last_or, set_here, set_other}
use Rattle.pref_list.proofs.Numbering.{numbered_low, pick_at}

-- ---- one more command

-- a command that is there already adds nothing, and any other is put at the end
pub repeats_more : (cs : List Change) (c : Change) → without_repeats (cs ++ c ∷ []) ≡ if is_in cs c then without_repeats cs else without_repeats cs ++ c ∷ []
repeats_more [] c = refl
repeats_more (d ∷ cs) c = go (same_change c d) refl (is_in cs c) refl (repeats_more cs c)
  where
    go : (a : Bool) → same_change c d ≡ a → (b : Bool) → is_in cs c ≡ b → without_repeats (cs ++ c ∷ []) ≡ (if is_in cs c then without_repeats cs else without_repeats cs ++ c ∷ []) →
        (d ∷ filter (differs_from d) (without_repeats (cs ++ c ∷ []))) ≡ if a || b then d ∷ filter (differs_from d) (without_repeats cs) else d ∷ filter (differs_from d) (without_repeats cs) ++ c ∷ []
    go a e true f ih = ap (λ l. d ∷ filter (differs_from d) l) (ih ∙ ap (λ b. if b then without_repeats cs else without_repeats cs ++ c ∷ []) f) ∙ any a
      where
        any : (a : Bool) → (d ∷ filter (differs_from d) (without_repeats cs)) ≡ if a || true then d ∷ filter (differs_from d) (without_repeats cs) else d ∷ filter (differs_from d) (without_repeats cs) ++ c ∷ []
        any true = refl
        any false = refl
    go true e false f ih = ap (λ l. d ∷ filter (differs_from d) l) (ih ∙ ap (λ b. if b then without_repeats cs else without_repeats cs ++ c ∷ []) f) ∙ ap (λ l. d ∷ l) (filter-append (differs_from d) (without_repeats cs) (c ∷ []) ∙ ap (λ b. filter (differs_from d) (without_repeats cs) ++ (if not b then c ∷ [] else [])) e ∙ append-nil (filter (differs_from d) (without_repeats cs)))
    go false e false f ih = ap (λ l. d ∷ filter (differs_from d) l) (ih ∙ ap (λ b. if b then without_repeats cs else without_repeats cs ++ c ∷ []) f) ∙ ap (λ l. d ∷ l) (filter-append (differs_from d) (without_repeats cs) (c ∷ []) ∙ ap (λ b. filter (differs_from d) (without_repeats cs) ++ (if not b then c ∷ [] else [])) e)

map-append : {X Y : Type 0} (f : X → Y) (xs ys : List X) → map f (xs ++ ys) ≡ map f xs ++ map f ys
map-append f [] ys = refl
map-append f (x ∷ xs) ys = ap (λ l. f x ∷ l) (map-append f xs ys)

in_more : (cs : List Change) (c d : Change) → is_in (cs ++ c ∷ []) d ≡ (is_in cs d || same_change d c)
in_more cs c d = is_in-append cs (c ∷ []) d ∙ ap (λ b. is_in cs d || b) (last (same_change d c))
  where
    last : (b : Bool) → (b || false) ≡ b
    last true = refl
    last false = refl

module _ (sets : List (List Change)) (table : List Pick) (different : AreDifferent sets table) (least : AreLeast sets table) (number : ℕ) (c : Change) (is : numbered sets table number ≡ Some c)
    (seen : List Bool) (picks : List Pick) (cs : List Change) (order : IsOrderOf sets table seen picks cs) where
  seen_is : slice_get seen number ≡ Some (is_in cs c)
  seen_is = order.flags number c is

  flag_is : (b : Bool) → slice_get seen number ≡ Some b → is_in cs c ≡ b
  flag_is b e = same (sym seen_is ∙ e)
    where
      same : Some (is_in cs c) ≡ Some b → is_in cs c ≡ b
      same e = cc

  -- every other number has another command
  apart : (m : ℕ) (d : Change) → numbered sets table m ≡ Some d → (m ≡ number → ⊥) → same_change d c ≡ false
  apart m d e other = go (same_change d c) (same_change_is d c)
    where
      go : (b : Bool) → (b ≡ true → d ≡ c) → b ≡ false
      go false f = refl
      go true f = absurd (other (different m number d e (is ∙ ap Some (sym (f refl)))))

  same_number : (m : ℕ) (d : Change) → numbered sets table m ≡ Some d → m ≡ number → d ≡ c
  same_number m d e n = same (sym e ∙ ap (numbered sets table) n ∙ is)
    where
      same : Some d ≡ Some c → d ≡ c
      same e = cc

  pub seen_more : slice_get seen number ≡ Some true → IsOrderOf sets table seen picks (cs ++ c ∷ [])
  seen_more flag = record {
    many = order.many;
    flags = λ m d e. order.flags m d e ∙ ap Some (sym (in_more cs c d ∙ kept m d e));
    commands = order.commands ∙ ap (map Some) (sym (repeats_more cs c ∙ ap (λ b. if b then without_repeats cs else without_repeats cs ++ c ∷ []) (flag_is true flag)));
    least = order.least;
  }
    where
      kept : (m : ℕ) (d : Change) → numbered sets table m ≡ Some d → (is_in cs d || same_change d c) ≡ is_in cs d
      kept m d e = go (same_change d c) (same_change_is d c)
        where
          none : (b : Bool) → (b || false) ≡ b
          none true = refl
          none false = refl

          there : (b : Bool) → b ≡ true → (b || true) ≡ b
          there true e = refl
          there false e = cc (e)

          go : (b : Bool) → (b ≡ true → d ≡ c) → (is_in cs d || b) ≡ is_in cs d
          go true f = there (is_in cs d) (ap (is_in cs) (f refl) ∙ flag_is true flag)
          go false f = none (is_in cs d)

  pub taken_more : (pick : Pick) → slice_get table number ≡ Some pick → slice_get seen number ≡ Some false → IsOrderOf sets table (slice_set seen number true) (picks ++ pick ∷ []) (cs ++ c ∷ [])
  taken_more pick at flag = record {
    many = length-set seen number true ∙ order.many;
    flags = λ m d e. go m d e (cases_lt m number) (cases_lt number m);
    commands = map-append (command_of sets) picks (pick ∷ []) ∙ ap (λ l. l ++ command_of sets pick ∷ []) order.commands ∙ ap (λ o. map Some (without_repeats cs) ++ o ∷ []) of
        ∙ sym (ap (map Some) (repeats_more cs c ∙ ap (λ b. if b then without_repeats cs else without_repeats cs ++ c ∷ []) (flag_is false flag)) ∙ map-append Some (without_repeats cs) (c ∷ []));
    least = λ m x e. own m x (last_or picks pick m x e);
  }
    where
      of : command_of sets pick ≡ Some c
      of = let p = pick_at sets table number c is in ap (command_of sets) (same p.pick (sym at ∙ p.at)) ∙ p.of
        where
          same : (x : Pick) → Some pick ≡ Some x → pick ≡ x
          same x e = cc

      own : (m : ℕ) (x : Pick) → (slice_get picks m ≡ Some x) ⊎ ((m ≡ length picks) × (x ≡ pick)) → (d : Change) × (command_of sets x ≡ Some d) × (x.log ≡ log_of sets d)
      own m x (inl old) = order.least m x old
      own m x (inr new) = subst (λ y. (d : Change) × (command_of sets y ≡ Some d) × (y.log ≡ log_of sets d)) (sym new.1) (least number pick at)

      low : number < length seen
      low = slice_get_within seen number false flag

      right : (b : Bool) → (b || true) ≡ true
      right true = refl
      right false = refl

      none : (b : Bool) → (b || false) ≡ b
      none true = refl
      none false = refl

      away : (m : ℕ) (d : Change) → numbered sets table m ≡ Some d → (m ≡ number → ⊥) → slice_get (slice_set seen number true) m ≡ Some (is_in (cs ++ c ∷ []) d)
      away m d e other = set_other seen number true m (is_in cs d) other (order.flags m d e) ∙ ap Some (sym (in_more cs c d ∙ ap (λ b. is_in cs d || b) (apart m d e other) ∙ none (is_in cs d)))

      go : (m : ℕ) (d : Change) → numbered sets table m ≡ Some d → (m < number) ⊎ (number ≤ m) → (number < m) ⊎ (m ≤ number) → slice_get (slice_set seen number true) m ≡ Some (is_in (cs ++ c ∷ []) d)
      go m d e (inl l) b = away m d e (λ n. absurd (omega arith))
      go m d e (inr h) (inl l) = away m d e (λ n. absurd (omega arith))
      go m d e (inr h) (inr l) = let n : m ≡ number = omega arith in
          ap (slice_get (slice_set seen number true)) n ∙ set_here seen number true low ∙ ap Some (sym (in_more cs c d ∙ ap (λ b. is_in cs d || b) (same_change_at d c (same_number m d e n)) ∙ right (is_in cs d)))

pub takes_one : (sets : List (List Change)) (table : List Pick) → AreDifferent sets table → AreLeast sets table → (number : ℕ) (c : Change) → numbered sets table number ≡ Some c →
    (seen seen2 : List Bool) (picks picks2 : List Pick) → Takes table seen picks seen2 picks2 number → TakesAll sets table seen picks seen2 picks2 (c ∷ [])
takes_one sets table different least number c is seen seen2 picks picks2 (inl (flag, e, f)) cs order =
    subst (λ s. IsOrderOf sets table s picks2 (cs ++ c ∷ [])) (sym e) (subst (λ p. IsOrderOf sets table seen p (cs ++ c ∷ [])) (sym f) (seen_more sets table different least number c is seen picks cs order flag))
takes_one sets table different least number c is seen seen2 picks picks2 (inr (pick, at, flag, e, f)) cs order =
    subst (λ s. IsOrderOf sets table s picks2 (cs ++ c ∷ [])) (sym e) (subst (λ p. IsOrderOf sets table (slice_set seen number true) p (cs ++ c ∷ [])) (sym f) (taken_more sets table different least number c is seen picks cs order pick at flag))

-- ---- a range of places

pub record TakenTo (sets : List (List Change)) (table : List Pick) (first : List Bool) (first_picks : List Pick) (seen : List Bool) (picks : List Pick) (set : List Change) (from place : ℕ) : Type 0 where
  pub many : length seen ≡ length table
  pub taken : TakesAll sets table first first_picks seen picks (slice_range set from place)

pub drop_at : {X : Type 0} (a : ℕ) (l : List X) (k j : ℕ) → j ≡ a + k → slice_get (drop a l) k ≡ slice_get l j
drop_at zero l k j e = let h : k ≡ j = omega arith in ap (slice_get l) h
drop_at (suc a) [] k j e = refl
drop_at (suc a) (y ∷ l) k zero e = absurd (omega arith)
drop_at (suc a) (y ∷ l) k (suc j) e = drop_at a l k j (omega arith)

range_more : (xs : List Change) (from place : ℕ) (x : Change) → from ≤ place → slice_get xs place ≡ Some x → slice_range xs from (place + 1) ≡ slice_range xs from place ++ x ∷ []
range_more xs from place x le e =
    ap (λ n. take n (drop from xs)) (let n : place + 1 - from ≡ suc (place - from) = omega arith in n)
    ∙ take-suc (drop from xs) (place - from) x (slice_get_within (drop from xs) (place - from) x here)
    ∙ ap (λ y. take (place - from) (drop from xs) ++ y ∷ []) (get_or_from_slice_get (drop from xs) (place - from) x x here)
  where
    here : slice_get (drop from xs) (place - from) ≡ Some x
    here = drop_at from xs (place - from) place (let n : place ≡ from + (place - from) = omega arith in n) ∙ e

-- nothing is taken of an empty range
pub range_start : (xs : List Change) (from : ℕ) → slice_range xs from from ≡ []
range_start xs from = ap (λ n. take n (drop from xs)) (let n : from - from ≡ 0 = omega arith in n)

pub own_numbers : (sets : List (List Change)) (picks : List Pick) (lists : List (Vec ℕ Global)) (log : ℕ) (v : Vec ℕ Global) → AreNumbered sets picks lists → 0 < log → log ≤ length sets → v ≡ get_or lists (log - 1) v → AreNumbersOf sets picks (set_of sets log) v.items
own_numbers sets picks lists zero v all low high is = absurd (omega arith)
own_numbers sets picks lists (suc k) v all low high is = all.each k v (slice_get_read lists (length lists) k v refl (let m = all.many in omega arith) (is ∙ ap (λ n. get_or lists n v) (let n : suc k - 1 ≡ k = omega arith in n)))

-- the command at a place has the number that stands there
pub record IsNumberedAt (sets : List (List Change)) (picks : List Pick) (cs : List Change) (place m : ℕ) : Type 0 where
  pub command : Change
  pub at : slice_get cs place ≡ Some command
  pub is : numbered sets picks m ≡ Some command

pub number_here : (sets : List (List Change)) (picks : List Pick) (cs : List Change) (own : List ℕ) (place : ℕ) → AreNumbersOf sets picks cs own → place < length cs → IsNumberedAt sets picks cs place (get_or own place 0)
number_here sets picks cs own place of low = go (slice_get cs place) refl (slice_get_cases cs place).1
  where
    go : (o : Option Change) → slice_get cs place ≡ o → ((x : Change) × (place < length cs) × (slice_get cs place ≡ Some x) × (get_or cs place x ≡ x)) ⊎ ((length cs ≤ place) × (slice_get cs place ≡ None)) → IsNumberedAt sets picks cs place (get_or own place 0)
    go o e (inr past) = let l = past.0 in absurd (omega arith)
    go o e (inl h) = record {
      command = h.0;
      at = h.2;
      is = of.each place (get_or own place 0) h.0 (slice_get-get_or own place 0 (let m = of.many in omega arith)) h.2;
    }

pub number_low : (sets : List (List Change)) (picks : List Pick) (cs : List Change) (own : List ℕ) (place : ℕ) → AreNumbersOf sets picks cs own → place < length cs → get_or own place 0 < length picks
number_low sets picks cs own place of low = let h = number_here sets picks cs own place of low in numbered_low sets picks (get_or own place 0) h.command h.is

pub takes_then : (sets : List (List Change)) (table : List Pick) (seen seen2 seen3 : List Bool) (picks picks2 picks3 : List Pick) (xs ys : List Change) →
    TakesAll sets table seen picks seen2 picks2 xs → TakesAll sets table seen2 picks2 seen3 picks3 ys → TakesAll sets table seen picks seen3 picks3 (xs ++ ys)
takes_then sets table seen seen2 seen3 picks picks2 picks3 xs ys f g cs order = subst (IsOrderOf sets table seen3 picks3) (append_assoc cs xs ys) (g (cs ++ xs) (f cs order))

pub takes_none : (sets : List (List Change)) (table : List Pick) (seen : List Bool) (picks : List Pick) (xs : List Change) → xs ≡ [] → TakesAll sets table seen picks seen picks xs
takes_none sets table seen picks xs e cs order = subst (IsOrderOf sets table seen picks) (sym (append-nil cs) ∙ ap (λ l. cs ++ l) (sym e)) order

pub take_one_more : (sets : List (List Change)) (table : List Pick) (lists : List (Vec ℕ Global)) (set : List Change) (own : List ℕ) (first seen seen2 : List Bool) (first_picks picks picks2 : List Pick) (from place : ℕ) →
    AreNumbered sets table lists → AreNumbersOf sets table set own → place < length set → from ≤ place →
    TakenTo sets table first first_picks seen picks set from place → length seen2 ≡ length table → Takes table seen picks seen2 picks2 (get_or own place 0) → TakenTo sets table first first_picks seen2 picks2 set from (place + 1)
take_one_more sets table lists set own first seen seen2 first_picks picks picks2 from place all of low le so many takes =
    let h = number_here sets table set own place of low in record {
      many = many;
      taken = subst (TakesAll sets table first first_picks seen2 picks2) (sym (range_more set from place h.command le h.at))
          (takes_then sets table first seen seen2 first_picks picks picks2 (slice_range set from place) (h.command ∷ []) so.taken (takes_one sets table all.different all.least (get_or own place 0) h.command h.is seen seen2 picks picks2 takes));
    }
