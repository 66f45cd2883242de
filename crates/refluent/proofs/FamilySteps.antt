-- How children are linked, the last node first.
use Rattle.std.proofs.Common.{◌≡◌, ◌<◌, ◌≤◌, ◌+◌, ℕ, zero, suc, List, get_or, length, Option, Some, None, refl, sym, ap, subst, ◌∙◌, arith, ◌⊎◌, inl, inr}
use Rattle.std.specs.Prelude.{slice_set, slice_index_or}
use Rattle.std.specs.List.{slice_get}
use Rattle.std.proofs.lemmas.Option.{slice_get-get_or, slice_get_within}
use Rattle.std.proofs.lemmas.Bool.{cases_lt}
use Rattle.std.proofs.Math.ListN.{length-set}
use Rattle.refluent.specs.Families.{AreFamilies, IsFirstPlace, place_or, up_at, up_of}
use Rattle.refluent.specs.declared.joint.Link.{Link}
use Rattle.refluent.proofs.Wanting.{set_at}

same_or_not : (a b : ℕ) → (a ≡ b) ⊎ (a ≡ b → ⊥)
same_or_not zero zero = inl refl
same_or_not zero (suc b) = inr (λ e. absurd (omega arith))
same_or_not (suc a) zero = inr (λ e. absurd (omega arith))
same_or_not (suc a) (suc b) = go (same_or_not a b)
  where
    go : (a ≡ b) ⊎ (a ≡ b → ⊥) → (suc a ≡ suc b) ⊎ (suc a ≡ suc b → ⊥)
    go (inl e) = inl (ap suc e)
    go (inr f) = inr (λ e. f (omega arith))

-- one more place that does not pass
wider : (P : ℕ → Type 0) (k to : ℕ) (o : Option ℕ) → (P k → ⊥) → IsFirstPlace P (k + 1) to o → IsFirstPlace P k to o
wider P k to None other h = λ j low less p. go j low less p (cases_lt k j)
  where
    go : (j : ℕ) → k ≤ j → j < to → P j → (k < j) ⊎ (j ≤ k) → ⊥
    go j low less p (inl more) = h j (omega arith) less p
    go j low less p (inr most) = let e : j ≡ k = omega arith in other (subst P e p)
wider P k to (Some i) other h = (let a : k + 1 ≤ i = h.0 in omega arith, h.1, h.2, λ j low less p. go j less p (cases_lt k j) low)
  where
    go : (j : ℕ) → j < i → P j → (k < j) ⊎ (j ≤ k) → k ≤ j → ⊥
    go j less p (inl more) low = h.3 j (omega arith) less p
    go j less p (inr most) low = let e : j ≡ k = omega arith in other (subst P e p)

here : (P : ℕ → Type 0) (k to : ℕ) → k < to → P k → IsFirstPlace P k to (Some k)
here P k to low p = (omega arith, low, p, λ j a b q. absurd (omega arith))

pub families_none : (links : List Link) (children siblings : List (Option ℕ)) (n : ℕ) → n ≡ length links → length children ≡ n + 1 → length siblings ≡ n → ((up : ℕ) (o : Option ℕ) → slice_get children up ≡ Some o → o ≡ None) →
    AreFamilies links (length links) children siblings
families_none links children siblings n is many each none = record {
  many = many ∙ ap (λ k. k + 1) is;
  each = each ∙ is;
  first = λ up o e. subst (λ x. IsFirstPlace (λ j. up_at links j ≡ up) (length links) (length links) x) (sym (none up o e)) (λ j low less p. absurd (omega arith));
  next = λ i o low e. let h : i < length siblings = slice_get_within siblings i o e in absurd (omega arith);
}

pub families_more : (links : List Link) (k place up : ℕ) (children siblings now next : List (Option ℕ)) → k ≡ place + 1 → place < length links → up ≡ up_at links place → up < length children → AreFamilies links k children siblings →
    next ≡ slice_set siblings place (slice_index_or children up None) → now ≡ slice_set children up (Some place) → AreFamilies links place now next
families_more links k place up children siblings now next is low at up_low h made_next made = record {
  many = ap length made ∙ length-set children up (Some place) ∙ h.many;
  each = ap length made_next ∙ length-set siblings place (slice_index_or children up None) ∙ h.each;
  first = λ u o e. first u o (set_at children up u (Some place) o (sym (ap (λ l. slice_get l u) made) ∙ e));
  next = λ i o from e. follow i o from (set_at siblings place i (slice_index_or children up None) o (sym (ap (λ l. slice_get l i) made_next) ∙ e));
}
  where
    old : (u : ℕ) (o : Option ℕ) → slice_get children u ≡ Some o → IsFirstPlace (λ j. up_at links j ≡ u) (place + 1) (length links) o
    old u o e = subst (λ n. IsFirstPlace (λ j. up_at links j ≡ u) n (length links) o) is (h.first u o e)

    first : (u : ℕ) (o : Option ℕ) → ((u ≡ up) × (o ≡ Some place)) ⊎ ((u ≡ up → ⊥) × (slice_get children u ≡ Some o)) → IsFirstPlace (λ j. up_at links j ≡ u) place (length links) o
    first u o (inl g) = subst (λ x. IsFirstPlace (λ j. up_at links j ≡ u) place (length links) x) (sym g.1) (here (λ j. up_at links j ≡ u) place (length links) low (sym at ∙ sym g.0))
    first u o (inr g) = wider (λ j. up_at links j ≡ u) place (length links) o (λ e. g.0 (sym e ∙ sym at)) (old u o g.1)

    follow : (i : ℕ) (o : Option ℕ) → place ≤ i → ((i ≡ place) × (o ≡ slice_index_or children up None)) ⊎ ((i ≡ place → ⊥) × (slice_get siblings i ≡ Some o)) → IsFirstPlace (λ j. up_at links j ≡ up_at links i) (i + 1) (length links) o
    follow i o from (inl g) = subst (λ n. IsFirstPlace (λ j. up_at links j ≡ up_at links n) (n + 1) (length links) o) (sym g.0)
        (subst (λ n. IsFirstPlace (λ j. up_at links j ≡ n) (place + 1) (length links) o) at (old up o (slice_get-get_or children up None up_low ∙ ap Some (sym g.1))))
    follow i o from (inr g) = h.next i o (go (cases_lt place i)) g.1
      where
        go : (place < i) ⊎ (i ≤ place) → k ≤ i
        go (inl more) = omega arith
        go (inr most) = absurd (g.0 (omega arith))

pub up_here : (links : List Link) (place : ℕ) (z : Link) (count up : ℕ) → place < length links → count ≡ length links → up ≡ place_or (get_or links place z).parent count → up ≡ up_at links place
up_here links place z count up low many made = made ∙ ap (place_or (get_or links place z).parent) many ∙ ap (λ o. up_of o (length links)) (sym (slice_get-get_or links place z low))

pub families_step : (links : List Link) (k place up : ℕ) (children siblings now next : List (Option ℕ)) → place ≡ k → k < length links → up ≡ up_at links place → up_at links place ≤ length links → AreFamilies links (k + 1) children siblings →
    next ≡ slice_set siblings place (slice_index_or children up None) → now ≡ slice_set children up (Some place) → AreFamilies links k now next
families_step links k place up children siblings now next is low at few h made_next made = subst (λ n. AreFamilies links n now next) is
    (families_more links (k + 1) place up children siblings now next (omega arith) (omega arith) at (let m : length children ≡ length links + 1 = h.many in omega arith) h made_next made)
