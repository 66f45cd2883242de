-- How the net commands of claims are numbered, claim by claim.
use Rattle.std.proofs.Common.{◌≡◌, ◌<◌, ◌≤◌, ◌+◌, ◌==◌, ℕ, zero, suc, Bool, true, false, not, List, [], ◌∷◌, ◌++◌, take, drop, get_or, length, Option, Some, None, refl, sym, ap, subst, ◌∙◌, arith, length-append, ◌⊎◌, inl, inr}
use Rattle.std.specs.Prelude.{cond, if◌then◌else◌, slice_index, slice_set}
use Rattle.std.specs.List.{filter, list_any, slice_get, slice_range}
use Rattle.std.specs.Option.{option_map}
use Rattle.std.proofs.lemmas.Bool.{cases_lt}
use Rattle.std.proofs.lemmas.Bool.Decides.{nat_tests}
use Rattle.std.proofs.lemmas.Option.{slice_get-get_or, slice_get_within}
use Rattle.std.proofs.Math.ListN.{length-set}
use Rattle.sync_command.specs.Changes.{Change, is_down}
use Rattle.sync_command.specs.Trees.{one_each}
use Rattle.canon_set.specs.Sets.{canonical}
use Rattle.refluent.specs.Sets.{is_in, without_repeats, differs_from}
use Rattle.refluent.specs.Picks.{place_in}
use Rattle.refluent.specs.Tables.{AreOrdered, AreSorted, IsGroup, IsTable}
use Rattle.refluent.specs.JointParts.{change_in, changes_of, with_change}
use Rattle.refluent.specs.Numberings.{AreLinks, IsNumbered, link_of, all_changes, makes_down, downs_in, others_in, picks_of, with_pick, touch_alike}
use Rattle.refluent.specs.declared.joint.Link.{Link}
use Rattle.refluent.specs.declared.numbering.Numbering.{Numbering}
use Rattle.refluent.specs.declared.claims.Claim.{Claim}
use Rattle.refluent.specs.declared.table.Group.{Group}
use Rattle.refluent.proofs.Nets.{once_each}
use Rattle.refluent.proofs.Contiguous.{StartsAt, starts_first, starts_next}
use Rattle.refluent.proofs.Wanting.{set_at}
use Rattle.refluent.proofs.CanonicalPlaces.{filter-append, is_other, place_down, place_other, rises}
use Rattle.refluent.proofs.ClaimChanges.{has_parts, changes-append, all-append, rises_changes, came_before, repeats_more}

-- ---- counts

same_log : (a b : ℕ) → a ≡ b → (a == b) ≡ true
same_log a b e = grind (arith, nat_tests)

other_log : (a b : ℕ) → (a ≡ b → ⊥) → (a == b) ≡ false
other_log a b f = go (a == b) refl
  where
    go : (x : Bool) → (a == b) ≡ x → x ≡ false
    go false e = refl
    go true e = absurd (f (is e))
      where
        is : (a == b) ≡ true → a ≡ b
        is e = grind (arith, nat_tests)

-- what one claim adds to the changes of a log
abbrev one_of : ℕ → Claim → List Change
one_of l c = with_change (c.log == l) (change_in c) []

with_one : (b : Bool) (o : Option Change) (ys : List Change) → with_change b o ys ≡ with_change b o [] ++ ys
with_one false o ys = refl
with_one true None ys = refl
with_one true (Some d) ys = refl

one_none : (l : ℕ) (c : Claim) → change_in c ≡ None → one_of l c ≡ []
one_none l c e = ap (λ o. with_change (c.log == l) o []) e ∙ go (c.log == l)
  where
    go : (b : Bool) → with_change b None [] ≡ []
    go true = refl
    go false = refl

one_other : (l : ℕ) (c : Claim) → (c.log ≡ l → ⊥) → one_of l c ≡ []
one_other l c f = ap (λ b. with_change b (change_in c) []) (other_log c.log l f)

one_same : (l : ℕ) (c : Claim) (d : Change) → c.log ≡ l → change_in c ≡ Some d → one_of l c ≡ d ∷ []
one_same l c d e f = ap (λ b. with_change b (change_in c) []) (same_log c.log l e) ∙ ap (λ o. with_change true o []) f

changes_more : (W : List Claim) (k : ℕ) (c : Claim) → slice_get W k ≡ Some c → (l : ℕ) → changes_of l (take (k + 1) W) ≡ changes_of l (take k W) ++ one_of l c
changes_more W k c at l = ap (changes_of l) (has_parts W k c at).more ∙ changes-append l (take k W) (c ∷ [])

changes_less : (W : List Claim) (k : ℕ) (c : Claim) → slice_get W k ≡ Some c → (l : ℕ) → changes_of l (drop k W) ≡ one_of l c ++ changes_of l (drop (k + 1) W)
changes_less W k c at l = ap (changes_of l) (has_parts W k c at).rest ∙ with_one (c.log == l) (change_in c) (changes_of l (drop (k + 1) W))

changes_whole : (W : List Claim) (k : ℕ) (c : Claim) → slice_get W k ≡ Some c → (l : ℕ) → changes_of l W ≡ changes_of l (take k W) ++ (one_of l c ++ changes_of l (drop (k + 1) W))
changes_whole W k c at l = ap (changes_of l) (has_parts W k c at).whole ∙ changes-append l (take k W) (c ∷ drop (k + 1) W) ∙ ap (λ r. changes_of l (take k W) ++ r) (with_one (c.log == l) (change_in c) (changes_of l (drop (k + 1) W)))

count-append : (f : Change → Bool) (xs ys : List Change) → length (filter f (xs ++ ys)) ≡ length (filter f xs) + length (filter f ys)
count-append f xs ys = ap length (filter-append f xs ys) ∙ length-append (filter f xs) (filter f ys)

downs_one : (d : Change) → is_down d ≡ true → (downs_in (d ∷ []) ≡ 1) × (others_in (d ∷ []) ≡ 0)
downs_one d e = (ap (λ b. length (cond b (d ∷ []) [])) e, ap (λ b. length (cond (not b) (d ∷ []) [])) e)

others_one : (d : Change) → is_down d ≡ false → (downs_in (d ∷ []) ≡ 0) × (others_in (d ∷ []) ≡ 1)
others_one d e = (ap (λ b. length (cond b (d ∷ []) [])) e, ap (λ b. length (cond (not b) (d ∷ []) [])) e)

few_filtered : (f : Change → Bool) (xs : List Change) → length (filter f xs) ≤ length xs
few_filtered f [] = omega arith
few_filtered f (x ∷ xs) = go (f x) (few_filtered f xs)
  where
    go : (b : Bool) → length (filter f xs) ≤ length xs → length (cond b (x ∷ filter f xs) (filter f xs)) ≤ suc (length xs)
    go true h = omega arith
    go false h = omega arith

both_counts : (xs : List Change) → downs_in xs + others_in xs ≡ length xs
both_counts [] = refl
both_counts (x ∷ xs) = go (is_down x) (both_counts xs)
  where
    go : (b : Bool) → downs_in xs + others_in xs ≡ length xs → length (cond b (x ∷ filter is_down xs) (filter is_down xs)) + length (cond (not b) (x ∷ filter is_other xs) (filter is_other xs)) ≡ suc (length xs)
    go true h = omega arith
    go false h = omega arith

few_changes : (l : ℕ) (W : List Claim) → length (changes_of l W) ≤ length W
few_changes l [] = omega arith
few_changes l (c ∷ W) = go (c.log == l) (change_in c) (few_changes l W)
  where
    go : (b : Bool) (o : Option Change) → length (changes_of l W) ≤ length W → length (with_change b o (changes_of l W)) ≤ suc (length W)
    go false o h = omega arith
    go true None h = omega arith
    go true (Some d) h = omega arith

few_all : (W : List Claim) → length (all_changes W) ≤ length W
few_all [] = omega arith
few_all (c ∷ W) = go (change_in c) (few_all W)
  where
    go : (o : Option Change) → length (all_changes W) ≤ length W → length (with_change true o (all_changes W)) ≤ suc (length W)
    go None h = omega arith
    go (Some d) h = omega arith

few_kept : (xs : List Change) → length (without_repeats xs) ≤ length xs
few_kept [] = omega arith
few_kept (x ∷ xs) = let a : length (filter (differs_from x) (without_repeats xs)) ≤ length (without_repeats xs) = few_filtered (differs_from x) (without_repeats xs) in let b : length (without_repeats xs) ≤ length xs = few_kept xs in omega arith

few_taken : {X : Type 0} (k : ℕ) (xs : List X) → length (take k xs) ≤ k
few_taken zero xs = omega arith
few_taken (suc k) [] = omega arith
few_taken (suc k) (x ∷ xs) = let h : length (take k xs) ≤ k = few_taken k xs in omega arith

pub few_drawn : (W : List Claim) (k : ℕ) → length (without_repeats (all_changes (take k W))) ≤ k
few_drawn W k = let a : length (without_repeats (all_changes (take k W))) ≤ length (all_changes (take k W)) = few_kept (all_changes (take k W)) in let b : length (all_changes (take k W)) ≤ length (take k W) = few_all (take k W) in
    let c : length (take k W) ≤ k = few_taken k W in omega arith

-- ---- counting down commands

abbrev pub AreDowns : List Claim → ℕ → List ℕ → Type 0
AreDowns W k downs = (l m : ℕ) → slice_get downs l ≡ Some m → m ≡ downs_in (changes_of l (take k W))

index_is : (xs : List ℕ) (l m : ℕ) → slice_get xs l ≡ Some m → m ≡ slice_index xs l
index_is xs l m e = same (sym e ∙ slice_get-get_or xs l 0 (slice_get_within xs l m e))
  where
    same : Some m ≡ Some (get_or xs l 0) → m ≡ get_or xs l 0
    same e = cc

is_index : (xs : List ℕ) (l : ℕ) → l < length xs → slice_get xs l ≡ Some (slice_index xs l)
is_index xs l low = slice_get-get_or xs l 0 low

pub zeros_count : (W : List Claim) (downs : List ℕ) → ((l m : ℕ) → slice_get downs l ≡ Some m → m ≡ 0) → AreDowns W 0 downs
zeros_count W downs zeros l m e = zeros l m e

count_down : (W : List Claim) (k : ℕ) (c : Claim) → slice_get W k ≡ Some c → (d : Change) → change_in c ≡ Some d → is_down d ≡ true → (downs now : List ℕ) → c.log < length downs → AreDowns W k downs →
    now ≡ slice_set downs c.log (slice_index downs c.log + 1) → AreDowns W (k + 1) now
count_down W k c at d f down downs now low are made l m e = go (set_at downs c.log l (slice_index downs c.log + 1) m (sym (ap (λ x. slice_get x l) made) ∙ e))
  where
    go : ((l ≡ c.log) × (m ≡ slice_index downs c.log + 1)) ⊎ ((l ≡ c.log → ⊥) × (slice_get downs l ≡ Some m)) → m ≡ downs_in (changes_of l (take (k + 1) W))
    go (inl h) =
        let old : slice_index downs c.log ≡ downs_in (changes_of l (take k W)) = are c.log (slice_index downs c.log) (is_index downs c.log low) ∙ ap (λ x. downs_in (changes_of x (take k W))) (sym h.0) in
        let new : downs_in (changes_of l (take (k + 1) W)) ≡ downs_in (changes_of l (take k W)) + downs_in (one_of l c) = ap downs_in (changes_more W k c at l) ∙ count-append is_down (changes_of l (take k W)) (one_of l c) in
        let one : downs_in (one_of l c) ≡ 1 = ap downs_in (one_same l c d (sym h.0) f) ∙ (downs_one d down).0 in
        let here : m ≡ slice_index downs c.log + 1 = h.1 in omega arith
    go (inr h) =
        let old : m ≡ downs_in (changes_of l (take k W)) = are l m h.1 in
        let new : downs_in (changes_of l (take (k + 1) W)) ≡ downs_in (changes_of l (take k W)) + downs_in (one_of l c) = ap downs_in (changes_more W k c at l) ∙ count-append is_down (changes_of l (take k W)) (one_of l c) in
        let none : downs_in (one_of l c) ≡ 0 = ap downs_in (one_other l c (λ s. h.0 (sym s))) in omega arith

count_same : (W : List Claim) (k : ℕ) (c : Claim) → slice_get W k ≡ Some c → ((l : ℕ) → downs_in (one_of l c) ≡ 0) → (downs : List ℕ) → AreDowns W k downs → AreDowns W (k + 1) downs
count_same W k c at none downs are l m e =
    let old : m ≡ downs_in (changes_of l (take k W)) = are l m e in
    let new : downs_in (changes_of l (take (k + 1) W)) ≡ downs_in (changes_of l (take k W)) + downs_in (one_of l c) = ap downs_in (changes_more W k c at l) ∙ count-append is_down (changes_of l (take k W)) (one_of l c) in
    let z : downs_in (one_of l c) ≡ 0 = none l in omega arith

other_down : (c : Claim) (d : Change) → change_in c ≡ Some d → is_down d ≡ false → (l : ℕ) → downs_in (one_of l c) ≡ 0
other_down c d e f l = go (c.log == l)
  where
    go : (b : Bool) → downs_in (with_change b (change_in c) []) ≡ 0
    go false = refl
    go true = ap (λ o. downs_in (with_change true o [])) e ∙ (others_one d f).0

no_down : (c : Claim) → makes_down (change_in c) ≡ false → (l : ℕ) → downs_in (one_of l c) ≡ 0
no_down c e l = go (change_in c) refl e
  where
    go : (o : Option Change) → change_in c ≡ o → makes_down o ≡ false → downs_in (one_of l c) ≡ 0
    go None f g = ap downs_in (one_none l c f)
    go (Some d) f g = other_down c d f g l

slice_item : {X : Type 0} (xs : List X) (k : ℕ) (x : X) → k < length xs → x ≡ get_or xs k x → slice_get xs k ≡ Some x
slice_item xs k x low is = slice_get-get_or xs k x low ∙ ap Some (sym is)

pub count_then : (W : List Claim) (k : ℕ) (c : Claim) → k < length W → c ≡ get_or W k c → (b : Bool) → b ≡ makes_down (change_in c) → b ≡ true → (downs now : List ℕ) → c.log < length downs → AreDowns W k downs →
    now ≡ slice_set downs c.log (slice_index downs c.log + 1) → AreDowns W (k + 1) now
count_then W k c low is b made yes' downs now short are set = go (change_in c) refl (sym made ∙ yes')
  where
    go : (o : Option Change) → change_in c ≡ o → makes_down o ≡ true → AreDowns W (k + 1) now
    go None f g = cc (g)
    go (Some d) f g = count_down W k c (slice_item W k c low is) d f g downs now short are set

pub count_else : (W : List Claim) (k : ℕ) (c : Claim) → k < length W → c ≡ get_or W k c → (b : Bool) → b ≡ makes_down (change_in c) → b ≡ false → (downs : List ℕ) → AreDowns W k downs → AreDowns W (k + 1) downs
count_else W k c low is b made no' downs are = count_same W k c (slice_item W k c low is) (no_down c (sym made ∙ no')) downs are

pub downs_few : (W : List Claim) (k : ℕ) (downs : List ℕ) (l : ℕ) → l < length downs → AreDowns W k downs → slice_index downs l ≤ k
downs_few W k downs l low are =
    let is : slice_index downs l ≡ downs_in (changes_of l (take k W)) = are l (slice_index downs l) (is_index downs l low) in
    let a : downs_in (changes_of l (take k W)) ≤ length (changes_of l (take k W)) = few_filtered is_down (changes_of l (take k W)) in
    let b : length (changes_of l (take k W)) ≤ length (take k W) = few_changes l (take k W) in
    let c : length (take k W) ≤ k = few_taken k W in omega arith

-- ---- numbering

pub picks-append : (W xs ys : List Claim) → picks_of W (xs ++ ys) ≡ picks_of W xs ++ picks_of W ys
picks-append W [] ys = refl
picks-append W (x ∷ xs) ys = ap (with_pick W x.log (change_in x)) (picks-append W xs ys) ∙ go (change_in x)
  where
    go : (o : Option Change) → with_pick W x.log o (picks_of W xs ++ picks_of W ys) ≡ with_pick W x.log o (picks_of W xs) ++ picks_of W ys
    go None = refl
    go (Some d) = refl

picks_more : (W : List Claim) (k : ℕ) (c : Claim) → slice_get W k ≡ Some c → picks_of W (take (k + 1) W) ≡ picks_of W (take k W) ++ with_pick W c.log (change_in c) []
picks_more W k c at = ap (picks_of W) (has_parts W k c at).more ∙ picks-append W (take k W) (c ∷ [])

all_more : (W : List Claim) (k : ℕ) (c : Claim) → slice_get W k ≡ Some c → all_changes (take (k + 1) W) ≡ all_changes (take k W) ++ with_change true (change_in c) []
all_more W k c at = ap all_changes (has_parts W k c at).more ∙ all-append (take k W) (c ∷ [])

no_more : {X : Type 0} (xs : List X) → xs ++ [] ≡ xs
no_more [] = refl
no_more (x ∷ xs) = ap (λ l. x ∷ l) (no_more xs)

drop_none : {X : Type 0} (xs : List X) → xs ≡ drop 0 xs
drop_none xs = refl

pub numbered_first : (W : List Claim) (n : Numbering) → ((i : ℕ) (c : Claim) → slice_get W i ≡ Some c → c.log < length n.downs.items) → n.others.items ≡ n.downs.items →
    ((l m : ℕ) → slice_get n.downs.items l ≡ Some m → m ≡ downs_in (changes_of l W)) → n.picks.items ≡ [] → n.drawn ≡ 0 → IsNumbered W 0 n
numbered_first W n logs same downs picks drawn = record {
  logs = logs;
  many = ap length same;
  downs = downs;
  others = λ l m e. let h : m ≡ downs_in (changes_of l W) = downs l m (ap (λ x. slice_get x l) (sym same) ∙ e) in let z : others_in (changes_of l (take 0 W)) ≡ 0 = refl in omega arith;
  picks = picks;
  drawn = drawn;
}

-- a claim without a change adds nothing
pub numbered_none : (W : List Claim) (k : ℕ) (c : Claim) (n : Numbering) → slice_get W k ≡ Some c → change_in c ≡ None → IsNumbered W k n → IsNumbered W (k + 1) n
numbered_none W k c n at none h = record {
  logs = h.logs;
  many = h.many;
  downs = λ l m e. h.downs l m e ∙ ap downs_in (changes_less W k c at l ∙ ap (λ r. r ++ changes_of l (drop (k + 1) W)) (one_none l c none));
  others = λ l m e. h.others l m e ∙ ap (λ r. downs_in (changes_of l W) + others_in r) (sym (changes_more W k c at l ∙ ap (λ r. changes_of l (take k W) ++ r) (one_none l c none) ∙ no_more (changes_of l (take k W))));
  picks = h.picks ∙ sym (picks_more W k c at ∙ ap (λ o. picks_of W (take k W) ++ with_pick W c.log o []) none ∙ no_more (picks_of W (take k W)));
  drawn = h.drawn ∙ ap (λ r. length (without_repeats r)) (sym (all_more W k c at ∙ ap (λ o. all_changes (take k W) ++ with_change true o []) none ∙ no_more (all_changes (take k W))));
}

module _ (W : List Claim) (ordered : AreOrdered W) (k : ℕ) (c : Claim) (at : slice_get W k ≡ Some c) (d : Change) (change : change_in c ≡ Some d) (n : Numbering) (h : IsNumbered W k n) where
  mine : one_of c.log c ≡ d ∷ []
  mine = one_same c.log c d refl change

  low : c.log < length n.downs.items
  low = h.logs k c at

  downs_now : slice_index n.downs.items c.log ≡ downs_in (d ∷ []) + downs_in (changes_of c.log (drop (k + 1) W))
  downs_now = h.downs c.log (slice_index n.downs.items c.log) (is_index n.downs.items c.log low) ∙ ap downs_in (changes_less W k c at c.log) ∙ count-append is_down (one_of c.log c) (changes_of c.log (drop (k + 1) W)) ∙ ap (λ r. downs_in r + downs_in (changes_of c.log (drop (k + 1) W))) mine

  others_now : slice_index n.others.items c.log ≡ downs_in (changes_of c.log W) + others_in (changes_of c.log (take k W))
  others_now = h.others c.log (slice_index n.others.items c.log) (is_index n.others.items c.log (let m : length n.others.items ≡ length n.downs.items = h.many in let l : c.log < length n.downs.items = low in omega arith))

  whole : changes_of c.log W ≡ changes_of c.log (take k W) ++ d ∷ changes_of c.log (drop (k + 1) W)
  whole = changes_whole W k c at c.log ∙ ap (λ r. changes_of c.log (take k W) ++ (r ++ changes_of c.log (drop (k + 1) W))) mine

  -- some down command is still to come where this one is down
  pub down_left : is_down d ≡ true → 0 < slice_index n.downs.items c.log
  down_left e = let a = downs_now in let b : downs_in (d ∷ []) ≡ 1 = (downs_one d e).0 in omega arith

  -- there is space for one more place
  pub space_left : is_down d ≡ false → slice_index n.others.items c.log < length W
  space_left e =
      let a = others_now in
      let b : downs_in (changes_of c.log W) + others_in (changes_of c.log W) ≡ length (changes_of c.log W) = both_counts (changes_of c.log W) in
      let f : others_in (changes_of c.log W) ≡ others_in (changes_of c.log (take k W)) + others_in (d ∷ changes_of c.log (drop (k + 1) W)) = ap others_in whole ∙ count-append is_other (changes_of c.log (take k W)) (d ∷ changes_of c.log (drop (k + 1) W)) in
      let g : others_in (d ∷ changes_of c.log (drop (k + 1) W)) ≡ others_in (d ∷ []) + others_in (changes_of c.log (drop (k + 1) W)) = count-append is_other (d ∷ []) (changes_of c.log (drop (k + 1) W)) in
      let one : others_in (d ∷ []) ≡ 1 = (others_one d e).1 in
      let few : length (changes_of c.log W) ≤ length W = few_changes c.log W in omega arith

  -- the place that a command is given is its place in the net set
  place_is : (place : ℕ) (b : Bool) → is_down d ≡ b → (b ≡ true → place + 1 ≡ slice_index n.downs.items c.log) → (b ≡ false → place ≡ slice_index n.others.items c.log) → place ≡ place_in (canonical (changes_of c.log W)) d.node
  place_is place b e f g = by b e f g ∙ ap (λ l. place_in (canonical l) d.node) (sym whole)
    where
      rising : rises (changes_of c.log W) ≡ true
      rising = rises_changes c.log W ordered.sorted ordered.unique

      one : one_each (changes_of c.log W) ≡ true
      one = once_each c.log W ordered.unique

      by : (b : Bool) → is_down d ≡ b → (b ≡ true → place + 1 ≡ slice_index n.downs.items c.log) → (b ≡ false → place ≡ slice_index n.others.items c.log) →
          place ≡ place_in (canonical (changes_of c.log (take k W) ++ d ∷ changes_of c.log (drop (k + 1) W))) d.node
      by true e f g =
          let at' : place + 1 ≡ slice_index n.downs.items c.log = f refl in
          let now = downs_now in
          let unit : downs_in (d ∷ []) ≡ 1 = (downs_one d e).0 in
          let is : place ≡ downs_in (changes_of c.log (drop (k + 1) W)) = omega arith in
          is ∙ sym (place_down (changes_of c.log (take k W)) d (changes_of c.log (drop (k + 1) W)) (subst (λ l. rises l ≡ true) whole rising) (subst (λ l. one_each l ≡ true) whole one) e)
      by false e f g = g refl ∙ others_now ∙ ap (λ l. downs_in l + others_in (changes_of c.log (take k W))) whole ∙
          sym (place_other (changes_of c.log (take k W)) d (changes_of c.log (drop (k + 1) W)) (subst (λ l. rises l ≡ true) whole rising) (subst (λ l. one_each l ≡ true) whole one) e)

  others_apart : (l : ℕ) → (l ≡ c.log → ⊥) → (changes_of l (drop k W) ≡ changes_of l (drop (k + 1) W)) × (changes_of l (take (k + 1) W) ≡ changes_of l (take k W))
  others_apart l f = (
    changes_less W k c at l ∙ ap (λ r. r ++ changes_of l (drop (k + 1) W)) (one_other l c (λ s. f (sym s))),
    changes_more W k c at l ∙ ap (λ r. changes_of l (take k W) ++ r) (one_other l c (λ s. f (sym s))) ∙ no_more (changes_of l (take k W)),
  )

  taken_more : changes_of c.log (take (k + 1) W) ≡ changes_of c.log (take k W) ++ d ∷ []
  taken_more = changes_more W k c at c.log ∙ ap (λ r. changes_of c.log (take k W) ++ r) mine

  pub numbered_more : (s : Group) → IsGroup W s → s.start ≤ k → k < s.end → (b : Bool) → is_down d ≡ b → (now : Numbering) (place : ℕ) (repeated : Bool) →
      (b ≡ true → (place + 1 ≡ slice_index n.downs.items c.log) × (now.downs.items ≡ slice_set n.downs.items c.log place) × (now.others.items ≡ n.others.items)) →
      (b ≡ false → (place ≡ slice_index n.others.items c.log) × (now.others.items ≡ slice_set n.others.items c.log (place + 1)) × (now.downs.items ≡ n.downs.items)) →
      now.picks.items ≡ n.picks.items ++ record { log = c.log + 1; place = place } ∷ [] →
      repeated ≡ list_any (λ e. touch_alike c.says e.says) (slice_range W s.start k) → now.drawn ≡ (if repeated then n.drawn else n.drawn + 1) →
      IsNumbered W (k + 1) now
  numbered_more s group start end b e now place repeated down other picks rep drawn = record {
    logs = λ i x f. let g : x.log < length n.downs.items = h.logs i x f in let m : length now.downs.items ≡ length n.downs.items = long_downs b down other in omega arith;
    many = long_others b down other ∙ h.many ∙ sym (long_downs b down other);
    downs = downs_step b e down other;
    others = others_step b e down other;
    picks = picks ∙ ap (λ r. r ++ record { log = c.log + 1; place = place } ∷ []) h.picks ∙ ap (λ m. picks_of W (take k W) ++ record { log = c.log + 1; place = m } ∷ []) (place_is place b e (λ t. (down t).0) (λ t. (other t).0)) ∙
        sym (picks_more W k c at ∙ ap (λ o. picks_of W (take k W) ++ with_pick W c.log o []) change);
    drawn = drawn ∙ drawn_step;
  }
    where
      long_downs : (b : Bool) → (b ≡ true → (place + 1 ≡ slice_index n.downs.items c.log) × (now.downs.items ≡ slice_set n.downs.items c.log place) × (now.others.items ≡ n.others.items)) →
          (b ≡ false → (place ≡ slice_index n.others.items c.log) × (now.others.items ≡ slice_set n.others.items c.log (place + 1)) × (now.downs.items ≡ n.downs.items)) → length now.downs.items ≡ length n.downs.items
      long_downs true f g = ap length (f refl).1 ∙ length-set n.downs.items c.log place
      long_downs false f g = ap length (g refl).2

      long_others : (b : Bool) → (b ≡ true → (place + 1 ≡ slice_index n.downs.items c.log) × (now.downs.items ≡ slice_set n.downs.items c.log place) × (now.others.items ≡ n.others.items)) →
          (b ≡ false → (place ≡ slice_index n.others.items c.log) × (now.others.items ≡ slice_set n.others.items c.log (place + 1)) × (now.downs.items ≡ n.downs.items)) → length now.others.items ≡ length n.others.items
      long_others true f g = ap length (f refl).2
      long_others false f g = ap length (g refl).1 ∙ length-set n.others.items c.log (place + 1)

      downs_step : (b : Bool) → is_down d ≡ b → (b ≡ true → (place + 1 ≡ slice_index n.downs.items c.log) × (now.downs.items ≡ slice_set n.downs.items c.log place) × (now.others.items ≡ n.others.items)) →
          (b ≡ false → (place ≡ slice_index n.others.items c.log) × (now.others.items ≡ slice_set n.others.items c.log (place + 1)) × (now.downs.items ≡ n.downs.items)) →
          (l m : ℕ) → slice_get now.downs.items l ≡ Some m → m ≡ downs_in (changes_of l (drop (k + 1) W))
      downs_step true e f g l m x = go (set_at n.downs.items c.log l place m (sym (ap (λ y. slice_get y l) (f refl).1) ∙ x))
        where
          go : ((l ≡ c.log) × (m ≡ place)) ⊎ ((l ≡ c.log → ⊥) × (slice_get n.downs.items l ≡ Some m)) → m ≡ downs_in (changes_of l (drop (k + 1) W))
          go (inl y) =
              let a : m ≡ place = y.1 in let b : place + 1 ≡ slice_index n.downs.items c.log = (f refl).0 in let now = downs_now in let unit : downs_in (d ∷ []) ≡ 1 = (downs_one d e).0 in
              let is : m ≡ downs_in (changes_of c.log (drop (k + 1) W)) = omega arith in is ∙ ap (λ z. downs_in (changes_of z (drop (k + 1) W))) (sym y.0)
          go (inr y) = h.downs l m y.1 ∙ ap downs_in (others_apart l y.0).0
      downs_step false e f g l m x = h.downs l m (sym (ap (λ y. slice_get y l) (g refl).2) ∙ x) ∙ by (changes_less W k c at l)
        where
          by : changes_of l (drop k W) ≡ one_of l c ++ changes_of l (drop (k + 1) W) → downs_in (changes_of l (drop k W)) ≡ downs_in (changes_of l (drop (k + 1) W))
          by y = let a : downs_in (changes_of l (drop k W)) ≡ downs_in (one_of l c) + downs_in (changes_of l (drop (k + 1) W)) = ap downs_in y ∙ count-append is_down (one_of l c) (changes_of l (drop (k + 1) W)) in
              let z : downs_in (one_of l c) ≡ 0 = other_down c d change e l in omega arith

      others_step : (b : Bool) → is_down d ≡ b → (b ≡ true → (place + 1 ≡ slice_index n.downs.items c.log) × (now.downs.items ≡ slice_set n.downs.items c.log place) × (now.others.items ≡ n.others.items)) →
          (b ≡ false → (place ≡ slice_index n.others.items c.log) × (now.others.items ≡ slice_set n.others.items c.log (place + 1)) × (now.downs.items ≡ n.downs.items)) →
          (l m : ℕ) → slice_get now.others.items l ≡ Some m → m ≡ downs_in (changes_of l W) + others_in (changes_of l (take (k + 1) W))
      others_step true e f g l m x = h.others l m (sym (ap (λ y. slice_get y l) (f refl).2) ∙ x) ∙ by (changes_more W k c at l)
        where
          none : (b : Bool) → others_in (with_change b (change_in c) []) ≡ 0
          none false = refl
          none true = ap (λ o. others_in (with_change true o [])) change ∙ (downs_one d e).1

          by : changes_of l (take (k + 1) W) ≡ changes_of l (take k W) ++ one_of l c → downs_in (changes_of l W) + others_in (changes_of l (take k W)) ≡ downs_in (changes_of l W) + others_in (changes_of l (take (k + 1) W))
          by y = let a : others_in (changes_of l (take (k + 1) W)) ≡ others_in (changes_of l (take k W)) + others_in (one_of l c) = ap others_in y ∙ count-append is_other (changes_of l (take k W)) (one_of l c) in
              let z : others_in (one_of l c) ≡ 0 = none (c.log == l) in omega arith
      others_step false e f g l m x = go (set_at n.others.items c.log l (place + 1) m (sym (ap (λ y. slice_get y l) (g refl).1) ∙ x))
        where
          go : ((l ≡ c.log) × (m ≡ place + 1)) ⊎ ((l ≡ c.log → ⊥) × (slice_get n.others.items l ≡ Some m)) → m ≡ downs_in (changes_of l W) + others_in (changes_of l (take (k + 1) W))
          go (inl y) =
              let a : m ≡ place + 1 = y.1 in let b : place ≡ slice_index n.others.items c.log = (g refl).0 in let now = others_now in
              let more : others_in (changes_of c.log (take (k + 1) W)) ≡ others_in (changes_of c.log (take k W)) + others_in (d ∷ []) = ap others_in taken_more ∙ count-append is_other (changes_of c.log (take k W)) (d ∷ []) in
              let unit : others_in (d ∷ []) ≡ 1 = (others_one d e).1 in
              let is : m ≡ downs_in (changes_of c.log W) + others_in (changes_of c.log (take (k + 1) W)) = omega arith in is ∙ ap (λ z. downs_in (changes_of z W) + others_in (changes_of z (take (k + 1) W))) (sym y.0)
          go (inr y) = h.others l m y.1 ∙ ap (λ r. downs_in (changes_of l W) + others_in r) (sym (others_apart l y.0).1)

      drawn_step : (if repeated then n.drawn else n.drawn + 1) ≡ length (without_repeats (all_changes (take (k + 1) W)))
      drawn_step = ap (λ r. if r then n.drawn else n.drawn + 1) (rep ∙ sym (came_before W s k c d group start end at change)) ∙ ap (λ m. if is_in (all_changes (take k W)) d then m else m + 1) h.drawn ∙
          sym (ap (λ r. length (without_repeats r)) (all_more W k c at ∙ ap (λ o. all_changes (take k W) ++ with_change true o []) change) ∙ repeats_more (all_changes (take k W)) d)

pub log_low : (W : List Claim) (count : ℕ) (downs : List ℕ) → ((k : ℕ) (c : Claim) → slice_get W k ≡ Some c → c.log < count) → (k : ℕ) (c : Claim) → k < length W → c ≡ get_or W k c → length downs ≡ count → c.log < length downs
log_low W count downs logs k c low is many = let h : c.log < count = logs k c (slice_item W k c low is) in omega arith

-- ---- one claim more, by what the code finds of it

found_change : (o : Option Change) (r : Option Bool) (b : Bool) → r ≡ option_map is_down o → r ≡ Some b → (d : Change) × (o ≡ Some d) × (is_down d ≡ b)
found_change None r b made some = cc (made, some)
found_change (Some d) r b made some = (d, refl, same (sym made ∙ some))
  where
    same : Some (is_down d) ≡ Some b → is_down d ≡ b
    same e = cc

found_none : (o : Option Change) (r : Option Bool) → r ≡ option_map is_down o → ((b : Bool) → r ≡ Some b → ⊥) → o ≡ None
found_none None r made none = refl
found_none (Some d) r made none = absurd (none (is_down d) made)

pub add_none : (W : List Claim) (k : ℕ) (c : Claim) → k < length W → c ≡ get_or W k c → (n : Numbering) → IsNumbered W k n → (r : Option Bool) → r ≡ option_map is_down (change_in c) → ((b : Bool) → r ≡ Some b → ⊥) → IsNumbered W (k + 1) n
add_none W k c low is n h r made none = numbered_none W k c n (slice_item W k c low is) (found_none (change_in c) r made none) h

pub group_low : (W : List Claim) (s : Group) (k : ℕ) → IsGroup W s → k < s.end → k < length W
group_low W s k group high = let e : s.end ≤ length W = group.high in omega arith

pub log_few : (W : List Claim) (k : ℕ) (c : Claim) → k < length W → c ≡ get_or W k c → (n : Numbering) → IsNumbered W k n → length n.downs.items ≤ 64 → c.log < 64
log_few W k c low is n h few = let l : c.log < length n.downs.items = h.logs k c (slice_item W k c low is) in omega arith

pub drawn_low : (W : List Claim) (k : ℕ) (n : Numbering) → IsNumbered W k n → n.drawn ≤ k
drawn_low W k n h = let e : n.drawn ≡ length (without_repeats (all_changes (take k W))) = h.drawn in let f = few_drawn W k in omega arith

module _ (W : List Claim) (ordered : AreOrdered W) (k : ℕ) (c : Claim) (low : k < length W) (is : c ≡ get_or W k c) (n : Numbering) (h : IsNumbered W k n) (r : Option Bool) (made : r ≡ option_map is_down (change_in c)) (b : Bool) (some : r ≡ Some b) where
  found : (d : Change) × (change_in c ≡ Some d) × (is_down d ≡ b)
  found = found_change (change_in c) r b made some

  pub add_down : b ≡ true → 0 < slice_index n.downs.items c.log
  add_down e = down_left W ordered k c (slice_item W k c low is) found.0 found.1 n h (found.2 ∙ e)

  pub add_space : b ≡ false → slice_index n.others.items c.log < length W
  add_space e = space_left W ordered k c (slice_item W k c low is) found.0 found.1 n h (found.2 ∙ e)

  pub add_more : (s : Group) → IsGroup W s → s.start ≤ k → k < s.end → (now : Numbering) (place : ℕ) (repeated : Bool) →
      (b ≡ true → (place + 1 ≡ slice_index n.downs.items c.log) × (now.downs.items ≡ slice_set n.downs.items c.log place) × (now.others.items ≡ n.others.items)) →
      (b ≡ false → (place ≡ slice_index n.others.items c.log) × (now.others.items ≡ slice_set n.others.items c.log (place + 1)) × (now.downs.items ≡ n.downs.items)) →
      now.picks.items ≡ n.picks.items ++ record { log = c.log + 1; place = place } ∷ [] →
      repeated ≡ list_any (λ e. touch_alike c.says e.says) (slice_range W s.start k) → now.drawn ≡ (if repeated then n.drawn else n.drawn + 1) →
      IsNumbered W (k + 1) now
  add_more s group start end now place repeated down other picks rep drawn = numbered_more W ordered k c (slice_item W k c low is) found.0 found.1 n h s group start end b found.2 now place repeated down other picks rep drawn

pub if_repeated : (r : Bool) (m n : ℕ) → r ≡ true → m ≡ (if r then m else n)
if_repeated r m n e = ap (λ b. if b then m else n) (sym e)

pub if_new : (r : Bool) (m n : ℕ) → r ≡ false → n ≡ (if r then m else n)
if_new r m n e = ap (λ b. if b then m else n) (sym e)

-- ---- one group more

pub record IsNumberedTo (claims : List Claim) (groups : List Group) (place : ℕ) (n : Numbering) : Type 0 where
  pub upto : ℕ
  pub starts : StartsAt claims groups place upto
  pub numbered : IsNumbered claims upto n

pub group_item : (groups : List Group) (place : ℕ) (s : Group) → place < length groups → s ≡ get_or groups place s → slice_get groups place ≡ Some s
group_item groups place s low is = slice_item groups place s low is

pub to_first : (claims : List Claim) (groups : List Group) → AreSorted claims → IsTable claims groups → (n : Numbering) → IsNumbered claims 0 n → IsNumberedTo claims groups 0 n
to_first claims groups sorted table n h = record { upto = 0; starts = starts_first claims groups sorted table; numbered = h }

pub to_next : (claims : List Claim) (groups : List Group) → AreSorted claims → IsTable claims groups → (place : ℕ) (s : Group) → slice_get groups place ≡ Some s → (n : Numbering) → IsNumbered claims s.end n → IsNumberedTo claims groups (place + 1) n
to_next claims groups sorted table place s at n h = record { upto = s.end; starts = starts_next claims groups sorted table place s at; numbered = h }

pub numbered_at : (claims : List Claim) (groups : List Group) (place : ℕ) (s : Group) → slice_get groups place ≡ Some s → (n : Numbering) → IsNumberedTo claims groups place n → IsNumbered claims s.start n
numbered_at claims groups place s at n h = subst (λ k. IsNumbered claims k n) (sym (h.starts.0 s at)) h.numbered

pub numbered_whole : (claims : List Claim) (groups : List Group) (place : ℕ) → place ≡ length groups → (n : Numbering) → IsNumberedTo claims groups place n → IsNumbered claims (length claims) n
numbered_whole claims groups place last n h = subst (λ k. IsNumbered claims k n) (h.starts.1 last) h.numbered

pub links_first : (claims : List Claim) (groups : List Group) → AreLinks claims groups [] 0
links_first claims groups = record { many = refl; each = λ i s low e. absurd (omega arith) }

at_append : {X : Type 0} (xs : List X) (y : X) (i : ℕ) → i ≡ length xs → slice_get (xs ++ y ∷ []) i ≡ Some y
at_append [] y zero e = refl
at_append [] y (suc i) e = absurd (omega arith)
at_append (x ∷ xs) y zero e = absurd (omega arith)
at_append (x ∷ xs) y (suc i) e = at_append xs y i (omega arith)

in_append : {X : Type 0} (xs ys : List X) (i : ℕ) (x : X) → slice_get xs i ≡ Some x → slice_get (xs ++ ys) i ≡ Some x
in_append [] ys i x e = cc (e)
in_append (z ∷ xs) ys zero x e = e
in_append (z ∷ xs) ys (suc i) x e = in_append xs ys i x e

pub links_next : (claims : List Claim) (groups : List Group) (place : ℕ) (s : Group) → slice_get groups place ≡ Some s → (links now : List Link) → AreLinks claims groups links place → (n : Numbering) → IsNumbered claims s.start n →
    (start : ℕ) → start ≡ length n.picks.items → now ≡ links ++ record { parent = s.parent; start = start } ∷ [] → AreLinks claims groups now (place + 1)
links_next claims groups place s at links now h n numbered start is made = record {
  many = ap length made ∙ length-append links (record { parent = s.parent; start = start } ∷ []) ∙ ap (λ k. k + 1) h.many;
  each = λ i t low e. ap (λ l. slice_get l i) made ∙ go i t low e (cases_lt i place);
}
  where
    same : {a b : Group} → Some a ≡ Some b → a ≡ b
    same e = cc

    go : (i : ℕ) (t : Group) → i < place + 1 → slice_get groups i ≡ Some t → (i < place) ⊎ (place ≤ i) → slice_get (links ++ record { parent = s.parent; start = start } ∷ []) i ≡ Some (link_of claims t)
    go i t low e (inl less) = in_append links (record { parent = s.parent; start = start } ∷ []) i (link_of claims t) (h.each i t less e)
    go i t low e (inr more) =
        let is' : i ≡ place = omega arith in
        let this : s ≡ t = same (sym at ∙ ap (slice_get groups) (sym is') ∙ e) in
        let count : start ≡ length (picks_of claims (take s.start claims)) = is ∙ ap length numbered.picks in
        at_append links (record { parent = s.parent; start = start }) i (is' ∙ sym h.many) ∙ ap (λ k. Some (record { parent = s.parent; start = k })) count ∙ ap (λ u. Some (link_of claims u)) this
