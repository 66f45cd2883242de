-- How many drawn commands there are, counted over the claims.
use Rattle.std.proofs.Common.{◌≡◌, ◌<◌, ◌≤◌, ◌+◌, ◌-◌, ℕ, zero, suc, Bool, true, false, not, ◌&&◌, ◌||◌, List, [], ◌∷◌, length, Option, Some, None, refl, sym, ap, ◌∙◌, arith, ◌⊎◌, inl, inr}
use Rattle.std.specs.Prelude.{cond}
use Rattle.std.specs.List.{filter, slice_get}
use Rattle.sync_command.specs.Changes.{Change, same_change}
use Rattle.sync_command.specs.Trees.{command_at}
use Rattle.canon_set.specs.Sets.{canonical}
use Rattle.refluent.specs.Sets.{is_in, IsSubset, all_differ, differs_from, without_repeats}
use Rattle.refluent.specs.Drawn.{in_turn, drawn_of}
use Rattle.refluent.specs.UniqueClaims.{AreUnique}
use Rattle.refluent.specs.JointParts.{change_in, changes_of, sets_by, sets_from, with_change}
use Rattle.refluent.specs.Numberings.{all_changes}
use Rattle.refluent.specs.declared.claims.Claim.{Claim}
use Rattle.refluent.proofs.Sets.{all_differ-without_repeats, at_from_in, in_from_at, is_in-append, is_in-filter, is_in-without_repeats, same_change_at, same_change_is, same_change_refl}
use Rattle.refluent.proofs.Nets.{change_node, claimed, found, once_each}
use Rattle.canon_set.proofs.CallerLemmas.{command_at-canonical, one_each-canonical}
use Rattle.sync_path.proofs.CallerLemmas.{both}

-- ---- lists with the same commands, none twice, are equally long

few_filtered : (f : Change → Bool) (xs : List Change) → length (filter f xs) ≤ length xs
few_filtered f [] = omega arith
few_filtered f (x ∷ xs) = go (f x) (few_filtered f xs)
  where
    go : (b : Bool) → length (filter f xs) ≤ length xs → length (cond b (x ∷ filter f xs) (filter f xs)) ≤ suc (length xs)
    go true h = omega arith
    go false h = omega arith

-- without one of its commands a list is shorter
shorter : (x : Change) (ys : List Change) → is_in ys x ≡ true → length (filter (differs_from x) ys) < length ys
shorter x [] e = cc (e)
shorter x (y ∷ ys) e = go (same_change x y) refl (same_change_is x y) (shorter x ys) e
  where
    go : (b : Bool) → same_change x y ≡ b → (same_change x y ≡ true → x ≡ y) → (is_in ys x ≡ true → length (filter (differs_from x) ys) < length ys) → (b || is_in ys x) ≡ true → length (filter (differs_from x) (y ∷ ys)) < suc (length ys)
    go true f same ih g = let out : filter (differs_from x) (y ∷ ys) ≡ filter (differs_from x) ys = ap (λ b. cond (not b) (y ∷ filter (differs_from x) ys) (filter (differs_from x) ys)) (same_change_at y x (sym (same f))) in
        let n : length (filter (differs_from x) (y ∷ ys)) ≡ length (filter (differs_from x) ys) = ap length out in let few : length (filter (differs_from x) ys) ≤ length ys = few_filtered (differs_from x) ys in omega arith
    go false f same ih g = by (differs_from x y) (ih g)
      where
        by : (b : Bool) → length (filter (differs_from x) ys) < length ys → length (cond b (y ∷ filter (differs_from x) ys) (filter (differs_from x) ys)) < suc (length ys)
        by true h = omega arith
        by false h = omega arith

no_longer : (xs ys : List Change) → all_differ xs ≡ true → IsSubset xs ys → length xs ≤ length ys
no_longer [] ys differ part = omega arith
no_longer (x ∷ xs) ys differ part =
    let h = both (not (is_in xs x)) (all_differ xs) differ in
    let less = shorter x ys (part x (first (same_change_refl x))) in
    let rest : length xs ≤ length (filter (differs_from x) ys) = no_longer xs (filter (differs_from x) ys) h.1 (λ c e. is_in-filter (differs_from x) ys c ∙ pair (is_in ys c) (differs_from x c) (part c (later c e)) (apart c e h.0)) in omega arith
  where
    first : same_change x x ≡ true → is_in (x ∷ xs) x ≡ true
    first e = ap (λ b. b || is_in xs x) e

    later : (c : Change) → is_in xs c ≡ true → is_in (x ∷ xs) c ≡ true
    later c e = go (same_change c x) (is_in xs c) e
      where
        go : (a b : Bool) → b ≡ true → (a || b) ≡ true
        go a b e = grind arith

    pair : (a b : Bool) → a ≡ true → b ≡ true → (a && b) ≡ true
    pair a b e f = grind arith

    apart : (c : Change) → is_in xs c ≡ true → not (is_in xs x) ≡ true → differs_from x c ≡ true
    apart c e f = go (same_change c x) (same_change_is c x)
      where
        go : (b : Bool) → (b ≡ true → c ≡ x) → not b ≡ true
        go false g = refl
        go true g = let h : is_in xs x ≡ true = ap (is_in xs) (sym (g refl)) ∙ e in cc (f, h)

pub same_count : (xs ys : List Change) → ((c : Change) → is_in xs c ≡ is_in ys c) → length (without_repeats xs) ≡ length (without_repeats ys)
same_count xs ys same =
    let a = no_longer (without_repeats xs) (without_repeats ys) (all_differ-without_repeats xs) (λ c e. is_in-without_repeats ys c ∙ sym (same c) ∙ sym (is_in-without_repeats xs c) ∙ e) in
    let b = no_longer (without_repeats ys) (without_repeats xs) (all_differ-without_repeats ys) (λ c e. is_in-without_repeats xs c ∙ same c ∙ sym (is_in-without_repeats ys c) ∙ e) in omega (arith, a, b)

-- ---- the claims have the commands of the net sets

right_of : (a b : Bool) → b ≡ true → (a || b) ≡ true
right_of a b e = grind arith

either : (a b : Bool) → (a || b) ≡ true → (a ≡ true) ⊎ (b ≡ true)
either true b e = inl refl
either false b e = inr e

same_if : (a b : Bool) → (a ≡ true → b ≡ true) → (b ≡ true → a ≡ true) → a ≡ b
same_if true b f g = sym (f refl)
same_if false true f g = g refl
same_if false false f g = refl

claim_has : (cs : List Claim) (d : Change) → is_in (all_changes cs) d ≡ true → (k : ℕ) × (c : Claim) × (slice_get cs k ≡ Some c) × (change_in c ≡ Some d)
claim_has [] d e = cc (e)
claim_has (c ∷ cs) d e = go (claim_has cs d) (change_in c) refl e
  where
    go : (is_in (all_changes cs) d ≡ true → (k : ℕ) × (c : Claim) × (slice_get cs k ≡ Some c) × (change_in c ≡ Some d)) → (o : Option Change) → change_in c ≡ o → is_in (with_change true o (all_changes cs)) d ≡ true → (k : ℕ) × (x : Claim) × (slice_get (c ∷ cs) k ≡ Some x) × (change_in x ≡ Some d)
    go rec None f g = let h = rec g in (suc h.0, h.1, h.2, h.3)
    go rec (Some y) f g = by (either (same_change d y) (is_in (all_changes cs) d) g)
      where
        by : (same_change d y ≡ true) ⊎ (is_in (all_changes cs) d ≡ true) → (k : ℕ) × (x : Claim) × (slice_get (c ∷ cs) k ≡ Some x) × (change_in x ≡ Some d)
        by (inl s) = (0, c, refl, f ∙ ap Some (sym (same_change_is d y s)))
        by (inr r) = let h = rec r in (suc h.0, h.1, h.2, h.3)

has_claim : (cs : List Claim) (d : Change) (k : ℕ) (c : Claim) → slice_get cs k ≡ Some c → change_in c ≡ Some d → is_in (all_changes cs) d ≡ true
has_claim [] d k c e f = cc (e)
has_claim (x ∷ cs) d zero c e f = ap (λ o. is_in (with_change true o (all_changes cs)) d) (ap change_in (same e) ∙ f) ∙ ap (λ b. b || is_in (all_changes cs) d) (same_change_refl d)
  where
    same : Some x ≡ Some c → x ≡ c
    same e = cc
has_claim (x ∷ cs) d (suc k) c e f = go (change_in x) (has_claim cs d k c e f)
  where
    go : (o : Option Change) → is_in (all_changes cs) d ≡ true → is_in (with_change true o (all_changes cs)) d ≡ true
    go None h = h
    go (Some y) h = right_of (same_change d y) _ h

module _ (W : List Claim) (unique : AreUnique W) where
  in_set : (l : ℕ) (d : Change) → is_in (canonical (changes_of l W)) d ≡ true → command_at (changes_of l W) d.node ≡ Some d
  in_set l d e = let one = once_each l W unique in sym (command_at-canonical (changes_of l W) one d.node) ∙ at_from_in (canonical (changes_of l W)) (one_each-canonical (changes_of l W) one) d e

  from_turn : (n from : ℕ) (d : Change) → is_in (in_turn (sets_from from n W)) d ≡ true → (l : ℕ) × (command_at (changes_of l W) d.node ≡ Some d)
  from_turn zero from d e = cc (e)
  from_turn (suc n) from d e = go (from_turn n (from + 1) d) (either (is_in (canonical (changes_of from W)) d) (is_in (in_turn (sets_from (from + 1) n W)) d) (sym (is_in-append (canonical (changes_of from W)) (in_turn (sets_from (from + 1) n W)) d) ∙ e))
    where
      go : (is_in (in_turn (sets_from (from + 1) n W)) d ≡ true → (l : ℕ) × (command_at (changes_of l W) d.node ≡ Some d)) →
          (is_in (canonical (changes_of from W)) d ≡ true) ⊎ (is_in (in_turn (sets_from (from + 1) n W)) d ≡ true) → (l : ℕ) × (command_at (changes_of l W) d.node ≡ Some d)
      go rec (inl h) = (from, in_set from d h)
      go rec (inr h) = rec h

  to_turn : (n from l : ℕ) (d : Change) → from ≤ l → l < from + n → command_at (changes_of l W) d.node ≡ Some d → is_in (in_turn (sets_from from n W)) d ≡ true
  to_turn zero from l d low high e = absurd (omega arith)
  to_turn (suc n) from l d low high e = is_in-append (canonical (changes_of from W)) (in_turn (sets_from (from + 1) n W)) d ∙ go (λ a b. to_turn n (from + 1) l d a b e) (compare l from)
    where
      compare : (a b : ℕ) → (a ≡ b) ⊎ (a ≡ b → ⊥)
      compare zero zero = inl refl
      compare zero (suc b) = inr (λ e. absurd (omega arith))
      compare (suc a) zero = inr (λ e. absurd (omega arith))
      compare (suc a) (suc b) = up (compare a b)
        where
          up : (a ≡ b) ⊎ (a ≡ b → ⊥) → (suc a ≡ suc b) ⊎ (suc a ≡ suc b → ⊥)
          up (inl e) = inl (ap suc e)
          up (inr f) = inr (λ e. f (omega arith))

      left_of : (a b : Bool) → a ≡ true → (a || b) ≡ true
      left_of a b e = grind arith

      go : (from + 1 ≤ l → l < from + 1 + n → is_in (in_turn (sets_from (from + 1) n W)) d ≡ true) → (l ≡ from) ⊎ (l ≡ from → ⊥) → (is_in (canonical (changes_of from W)) d || is_in (in_turn (sets_from (from + 1) n W)) d) ≡ true
      go rec (inl same) = left_of _ _ (in_from_at (canonical (changes_of from W)) d.node d (command_at-canonical (changes_of from W) (once_each from W unique) d.node ∙ sym (ap (λ k. command_at (changes_of k W) d.node) same) ∙ e))
      go rec (inr other) = right_of _ _ (rec (more (cases l from low other)) (omega arith))
        where
          cases : (a b : ℕ) → b ≤ a → (a ≡ b → ⊥) → b < a
          cases a b low other = by (a - b) refl
            where
              by : (k : ℕ) → a - b ≡ k → b < a
              by zero e = absurd (other (omega arith))
              by (suc k) e = omega arith

          more : from < l → from + 1 ≤ l
          more h = omega arith

  pub drawn_count : (count : ℕ) → ((k : ℕ) (c : Claim) → slice_get W k ≡ Some c → c.log < count) → length (without_repeats (all_changes W)) ≡ length (drawn_of (sets_by W count))
  drawn_count count logs = same_count (all_changes W) (in_turn (sets_by W count)) (λ d. same_if _ _ (forth d) (back d))
    where
      forth : (d : Change) → is_in (all_changes W) d ≡ true → is_in (in_turn (sets_by W count)) d ≡ true
      forth d e = let h = claim_has W d e in let low : h.1.log < count = logs h.0 h.1 h.2 in
          to_turn count 0 h.1.log d (omega arith) (omega arith) (ap (command_at (changes_of h.1.log W)) (change_node h.1 d h.3) ∙ found h.1.log W unique h.0 h.1 d h.2 refl h.3)

      back : (d : Change) → is_in (in_turn (sets_by W count)) d ≡ true → is_in (all_changes W) d ≡ true
      back d e = let l = from_turn count 0 d e in let r = claimed l.0 W d.node d l.1 in has_claim W d r.place r.claim r.at r.change
