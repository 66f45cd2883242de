-- The changes of each log, in the order of the claims.
use Rattle.std.proofs.Common.{◌≡◌, ◌<◌, ◌+◌, ◌==◌, ℕ, suc, Bool, true, false, not, List, [], ◌∷◌, ◌++◌, map, get_or, length, Vec, Global, Option, Some, None, refl, sym, ap, subst, ◌∙◌, arith, ◌⊎◌, inl, inr}
use Rattle.std.specs.Prelude.{slice_set}
use Rattle.std.specs.List.{slice_get}
use Rattle.std.proofs.lemmas.Bool.Decides.{nat_tests}
use Rattle.std.proofs.lemmas.Option.{slice_get-get_or}
use Rattle.std.specs.List.{filter}
use Rattle.std.specs.Prelude.{cond}
use Rattle.std.specs.List.Sorted.{IsPermutation}
use Rattle.std.proofs.lemmas.List.Sorted.{IsPermutation-refl, IsPermutation-cons, IsPermutation-middle, IsPermutation-sym, IsPermutation-trans, IsPermutation-append_left}
use Rattle.std.proofs.Math.ListN.{length-set}
use Rattle.sync_command.specs.Changes.{Change, is_down}
use Rattle.sync_command.specs.Trees.{one_each}
use Rattle.sync_command.specs.Maps.{at}
use Rattle.canon_set.specs.Sets.{IsFitting, canonical}
use Rattle.refluent.specs.JointParts.{change_in, changes_of, with_change, IsPut, HasNets, sets_from, sets_by}
use Rattle.refluent.specs.declared.claims.Claim.{Claim}
use Rattle.refluent.proofs.Wanting.{set_at}
use Rattle.canon_set.proofs.CallerLemmas.{one_each-permuted, command_at-permuted, is_canonical-canonical, one_each-canonical, command_at-canonical}
use Rattle.sync_command.proofs.CallerLemmas.{same_fits, canonical_unique}

with_append : (b : Bool) (o : Option Change) (xs ys : List Change) → with_change b o (xs ++ ys) ≡ with_change b o xs ++ ys
with_append false o xs ys = refl
with_append true None xs ys = refl
with_append true (Some c) xs ys = refl

changes_append : (l : ℕ) (cs : List Claim) (c : Claim) → changes_of l (cs ++ c ∷ []) ≡ changes_of l cs ++ with_change (c.log == l) (change_in c) []
changes_append l [] c = refl
changes_append l (d ∷ cs) c = ap (with_change (d.log == l) (change_in d)) (changes_append l cs c) ∙ with_append (d.log == l) (change_in d) (changes_of l cs) (with_change (c.log == l) (change_in c) [])

same_log : (a b : ℕ) → b ≡ a → (a == b) ≡ true
same_log a b e = grind (arith, nat_tests)

other_log : (a b : ℕ) → (b ≡ a → ⊥) → (a == b) ≡ false
other_log a b f = go (a == b) refl
  where
    go : (x : Bool) → (a == b) ≡ x → x ≡ false
    go false e = refl
    go true e = absurd (f (is e))
      where
        is : (a == b) ≡ true → b ≡ a
        is e = grind (arith, nat_tests)

nothing_more : (xs : List Change) → xs ++ [] ≡ xs
nothing_more [] = refl
nothing_more (x ∷ xs) = ap (λ l. x ∷ l) (nothing_more xs)

with_none : (b : Bool) → with_change b None [] ≡ []
with_none true = refl
with_none false = refl

-- the lists hold the changes of the logs so far
pub record ListsTo (lists : List (Vec Change Global)) (claims : List Claim) (count : ℕ) : Type 0 where
  pub many : length lists ≡ count
  pub each : (k : ℕ) (cs : Vec Change Global) → slice_get lists k ≡ Some cs → cs.items ≡ changes_of k claims

pub lists_none : (lists : List (Vec Change Global)) (claims : List Claim) (count : ℕ) (c : Claim) → ListsTo lists claims count → change_in c ≡ None → ListsTo lists (claims ++ c ∷ []) count
lists_none lists claims count c h e = record { many = h.many; each = λ k cs at. h.each k cs at ∙ sym (changes_append k claims c ∙ ap (λ o. changes_of k claims ++ with_change (c.log == k) o []) e ∙ ap (λ l. changes_of k claims ++ l) (with_none (c.log == k)) ∙ nothing_more (changes_of k claims)) }

pub lists_more : (lists : List (Vec Change Global)) (claims : List Claim) (count : ℕ) (c : Claim) (d : Change) (old new : Vec Change Global) → ListsTo lists claims count → slice_get lists c.log ≡ Some old → new.items ≡ old.items ++ d ∷ [] → change_in c ≡ Some d → length (slice_set lists c.log new) ≡ length lists →
    ListsTo (slice_set lists c.log new) (claims ++ c ∷ []) count
lists_more lists claims count c d old new h at made e long = record { many = long ∙ h.many; each = λ k cs there. go k cs (set_at lists c.log k new cs there) }
  where
    go : (k : ℕ) (cs : Vec Change Global) → ((k ≡ c.log) × (cs ≡ new)) ⊎ ((k ≡ c.log → ⊥) × (slice_get lists k ≡ Some cs)) → cs.items ≡ changes_of k (claims ++ c ∷ [])
    go k cs (inl g) = ap (λ v. v.items) g.1 ∙ made ∙ ap (λ l. l ++ d ∷ []) (h.each c.log old at ∙ ap (λ n. changes_of n claims) (sym g.0)) ∙
        sym (changes_append k claims c ∙ ap (λ o. changes_of k claims ++ with_change (c.log == k) o []) e ∙ ap (λ b. changes_of k claims ++ with_change b (Some d) []) (same_log c.log k g.0))
    go k cs (inr g) = h.each k cs g.1 ∙ sym (changes_append k claims c ∙ ap (λ b. changes_of k claims ++ with_change b (change_in c) []) (other_log c.log k g.0) ∙ nothing_more (changes_of k claims))

pub none_there : (o q : Option Change) → o ≡ q → ((x : Change) → o ≡ Some x → ⊥) → q ≡ None
none_there None q e f = sym e
none_there (Some x) q e f = absurd (f x refl)

pub lists_put : (lists now : List (Vec Change Global)) (claims : List Claim) (count : ℕ) (c : Claim) (d : Change) → ListsTo lists claims count → IsPut lists now c.log d → change_in c ≡ Some d → ListsTo now (claims ++ c ∷ []) count
lists_put lists now claims count c d h put e = subst (λ l. ListsTo l (claims ++ c ∷ []) count) (sym put.is) (lists_more lists claims count c d put.before put.after h put.at put.more e (length-set lists c.log put.after))

-- ---- a set put in order

pub parted : (f : Change → Bool) (xs : List Change) → IsPermutation xs (filter f xs ++ filter (λ c. not (f c)) xs)
parted f [] = IsPermutation-refl []
parted f (x ∷ xs) = go (f x) (parted f xs)
  where
    go : (b : Bool) → IsPermutation xs (filter f xs ++ filter (λ c. not (f c)) xs) → IsPermutation (x ∷ xs) (cond b (x ∷ filter f xs) (filter f xs) ++ cond (not b) (x ∷ filter (λ c. not (f c)) xs) (filter (λ c. not (f c)) xs))
    go true ih = IsPermutation-cons x xs (filter f xs ++ filter (λ c. not (f c)) xs) ih
    go false ih = IsPermutation-trans (x ∷ xs) (x ∷ (filter f xs ++ filter (λ c. not (f c)) xs)) (filter f xs ++ x ∷ filter (λ c. not (f c)) xs) (IsPermutation-cons x xs (filter f xs ++ filter (λ c. not (f c)) xs) ih)
        (IsPermutation-sym (filter f xs ++ x ∷ filter (λ c. not (f c)) xs) (x ∷ (filter f xs ++ filter (λ c. not (f c)) xs)) (IsPermutation-middle (filter f xs) x (filter (λ c. not (f c)) xs)))

pub arranged : (given downs turned others all : List Change) → downs ≡ filter is_down given → others ≡ filter (λ c. not (is_down c)) given → IsPermutation downs turned → all ≡ turned ++ others → IsPermutation given all
arranged given downs turned others all d o moved is = subst (IsPermutation given) (sym is) (IsPermutation-trans given (downs ++ others) (turned ++ others) (subst (IsPermutation given) (sym (ap (λ l. l ++ others) d ∙ ap (λ l. filter is_down given ++ l) o)) (parted is_down given)) (IsPermutation-append_left others downs turned moved))

pub one_still : (given all : List Change) → one_each given ≡ true → IsPermutation given all → one_each all ≡ true
one_still given all one moved = one_each-permuted given all one moved

pub fits_still : (given all : List Change) → one_each given ≡ true → IsPermutation given all → IsFitting given → IsFitting all
fits_still given all one moved h = record { map = h.map; tree = h.tree; fits = same_fits (at h.map) given all (one_each-permuted given all one moved) (λ p. sym (command_at-permuted given all one moved p)) h.fits }

pub canonical_still : (given all : List Change) → one_each given ≡ true → IsPermutation given all → canonical all ≡ canonical given
canonical_still given all one moved = let other = one_each-permuted given all one moved in
    canonical_unique (canonical all) (canonical given) (is_canonical-canonical all other) (is_canonical-canonical given one) (one_each-canonical all other) (one_each-canonical given one)
    (λ p. command_at-canonical all other p ∙ command_at-permuted given all one moved p ∙ sym (command_at-canonical given one p))

-- ---- all sets

pub list_is : (lists : List (Vec Change Global)) (claims : List Claim) (count k : ℕ) (v : Vec Change Global) → length lists ≡ count → ((k : ℕ) (cs : Vec Change Global) → slice_get lists k ≡ Some cs → cs.items ≡ changes_of k claims) → k < length lists → v ≡ get_or lists k v → (k < count) × (v.items ≡ changes_of k claims)
list_is lists claims count k v many each low is = (omega arith, each k v (slice_get-get_or lists k v low ∙ ap Some (sym is)))

pub one_of : (claims : List Claim) (count k : ℕ) (items : List Change) → HasNets claims count → k < count → items ≡ changes_of k claims → one_each items ≡ true
one_of claims count k items h low is = ap one_each is ∙ h.one k low

pub fitting_of : (claims : List Claim) (count k : ℕ) (items : List Change) → HasNets claims count → k < count → items ≡ changes_of k claims → IsFitting items
fitting_of claims count k items h low is = subst IsFitting (sym is) (h.fitting k low)

sets_at : (lists : List (Vec Change Global)) (claims : List Claim) (from : ℕ) → ((k : ℕ) (cs : Vec Change Global) → slice_get lists k ≡ Some cs → cs.items ≡ changes_of (k + from) claims) → map (λ v. canonical v.items) lists ≡ sets_from from (length lists) claims
sets_at [] claims from h = refl
sets_at (v ∷ lists) claims from h = ap (λ c. c ∷ map (λ v. canonical v.items) lists) (ap canonical (h 0 v refl ∙ ap (λ n. changes_of n claims) first)) ∙ ap (λ l. canonical (changes_of from claims) ∷ l) (sets_at lists claims (from + 1) (λ k cs e. h (suc k) cs e ∙ ap (λ n. changes_of n claims) (next k)))
  where
    first : 0 + from ≡ from
    first = omega arith

    next : (k : ℕ) → suc k + from ≡ k + (from + 1)
    next k = omega arith

pub sets_are : (lists : List (Vec Change Global)) (claims : List Claim) (count : ℕ) → length lists ≡ count → ((k : ℕ) (cs : Vec Change Global) → slice_get lists k ≡ Some cs → cs.items ≡ changes_of k claims) → map (λ v. canonical v.items) lists ≡ sets_by claims count
sets_are lists claims count many each = sets_at lists claims 0 (λ k cs e. each k cs e ∙ ap (λ n. changes_of n claims) (zero_more k)) ∙ ap (λ n. sets_from 0 n claims) many
  where
    zero_more : (k : ℕ) → k ≡ k + 0
    zero_more k = omega arith
