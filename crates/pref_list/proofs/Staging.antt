-- Commands by their stages, as seen from a path.
use Rattle.std.proofs.Common.{List, Some, ◌+◌, ◌≡◌, ◌↔◌, ℕ, ◌<◌, ◌≤◌, Bool, true, false, IsTrue, length, refl, sym, ap, ◌∙◌, arith}
use Rattle.std.proofs.Common.{subst, ◌⊎◌, inl, inr}
use Rattle.std.specs.List.{slice_get}
use Rattle.std.proofs.lemmas.Option.{slice_get_within}
use Rattle.std.proofs.lemmas.Bool.{cases_lt}
use Rattle.sync_command.specs.Changes.{Change}
use Rattle.pref_list.specs.Stages.{stage_of, AreStaged, IsBound}
use Rattle.sync_path.specs.Paths.{Node, IsUnder, same_path, is_under}
use Rattle.sync_path.proofs.CallerLemmas.{same_path_decides, under_is}

alike : (r s : Bool) (T : Type 0) → IsTrue r ↔ T → IsTrue s ↔ T → r ≡ s
alike true true T h g = refl
alike true false T h g = sym (g.1 (h.0 refl))
alike false true T h g = h.1 (g.0 refl)
alike false false T h g = refl

-- the answers of `same` and of `under` are the tests
pub same_is : (p q : Node) (r : Bool) → IsTrue r ↔ (p ≡ q) → r ≡ same_path p q
same_is p q r h = alike r (same_path p q) (p ≡ q) h (same_path_decides p q)

pub under_test : (p q : Node) (r : Bool) → 0 < length q → IsTrue r ↔ IsUnder p q → r ≡ is_under p q
under_test p q r some h = alike r (is_under p q) (IsUnder p q) h (under_is p q some)

-- ---- halving

-- what is before the low place is of an earlier stage than the goal, and what is at or after the high one is not
pub record Halves (p : Node) (wide : Bool) (cs : List Change) (goal low high : ℕ) : Type 0 where
  pub order : low ≤ high
  pub end : high ≤ length cs
  pub before : (i : ℕ) (c : Change) → i < low → slice_get cs i ≡ Some c → stage_of p wide c < goal
  pub after : (i : ℕ) (c : Change) → high ≤ i → slice_get cs i ≡ Some c → goal ≤ stage_of p wide c

module _ (p : Node) (wide : Bool) (cs : List Change) (goal low high : ℕ) (staged : AreStaged p wide cs) (halves : Halves p wide cs goal low high) (middle : ℕ) (at : low ≤ middle) (under : middle < high) (x : Change) (is : slice_get cs middle ≡ Some x) where
  some_is : (c d : Change) → Some c ≡ Some d → c ≡ d
  some_is c d e = cc

  pub higher : stage_of p wide x < goal → Halves p wide cs goal (middle + 1) high
  higher h = record {
    order = omega arith;
    end = halves.end;
    before = λ i c less e. go i c e (cases_lt i middle) less;
    after = halves.after;
  }
    where
      go : (i : ℕ) (c : Change) → slice_get cs i ≡ Some c → (i < middle) ⊎ (middle ≤ i) → i < middle + 1 → stage_of p wide c < goal
      go i c e (inl low) less = let s : stage_of p wide c ≤ stage_of p wide x = staged i middle c x low e is in omega (arith, s, h)
      go i c e (inr high) less = let n : i ≡ middle = omega arith in
          let same : c ≡ x = some_is c x (sym e ∙ ap (slice_get cs) n ∙ is) in
          subst (λ y. stage_of p wide y < goal) (sym same) h

  pub lower : goal ≤ stage_of p wide x → Halves p wide cs goal low middle
  lower h = record {
    order = at;
    end = let e = halves.end in omega arith;
    before = halves.before;
    after = λ i c more e. go i c e (cases_lt middle i) more;
  }
    where
      go : (i : ℕ) (c : Change) → slice_get cs i ≡ Some c → (middle < i) ⊎ (i ≤ middle) → middle ≤ i → goal ≤ stage_of p wide c
      go i c e (inl low) more = let s : stage_of p wide x ≤ stage_of p wide c = staged middle i x c low is e in omega (arith, s, h)
      go i c e (inr high) more = let n : i ≡ middle = omega arith in
          let same : c ≡ x = some_is c x (sym e ∙ ap (slice_get cs) n ∙ is) in
          subst (λ y. goal ≤ stage_of p wide y) (sym same) h

pub halved : (p : Node) (wide : Bool) (cs : List Change) (goal low high : ℕ) → Halves p wide cs goal low high → high ≤ low → IsBound p wide cs goal low
halved p wide cs goal low high h over = record {
  low = let o = h.order in let e = h.end in omega arith;
  before = h.before;
  after = λ i c more e. h.after i c (omega arith) e;
}

pub whole : (p : Node) (wide : Bool) (cs : List Change) (goal : ℕ) → Halves p wide cs goal 0 (length cs)
whole p wide cs goal = record {
  order = omega arith;
  end = omega arith;
  before = λ i c less e. absurd (omega arith);
  after = λ i c more e. let in_it : i < length cs = slice_get_within cs i c e in absurd (omega arith);
}
