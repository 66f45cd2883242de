-- A ranking as the numbers of its commands.
use Rattle.std.proofs.Common.{◌≡◌, ℕ, zero, suc, ◌+◌, ◌<◌, ◌≤◌, Bool, true, false, not, ◌&&◌, ◌||◌, refl, ap, sym, arith, ◌⊎◌, inl, inr, List, [], ◌∷◌, length, map, nat_eq}
use Rattle.std.specs.Prelude.{slice_index}
use Rattle.sync_command.specs.Changes.{Change, same_change}
use Rattle.refluent.specs.Sets.{is_in, all_differ}
use Rattle.refluent.proofs.CallerLemmas.{same_change_is, same_change_at}
use Rattle.scan_board.specs.Tables.{count}
use Rattle.scan_board.proofs.CallerLemmas.{count_one, count_most}
use Rattle.scan_board.proofs.CallerLemmas.{nat_eq_at, nat_eq_not}

or_left : (a b : Bool) → a ≡ true → (a || b) ≡ true
or_left a b e = grind arith

or_right : (a b : Bool) → b ≡ true → (a || b) ≡ true
or_right a b e = grind arith

or_cases : (a b : Bool) → (a || b) ≡ true → (a ≡ true) ⊎ (b ≡ true)
or_cases true b e = inl refl
or_cases false b e = inr e

-- distinct numbers below d are at most d
abbrev hit : (ℕ → ℕ) → ℕ → ℕ → Bool
hit f zero i = false
hit f (suc n) i = nat_eq (f n) i || hit f n i

hit_not : (f : ℕ → ℕ) (n i : ℕ) → ((k : ℕ) → k < n → f k ≡ i → ⊥) → hit f n i ≡ false
hit_not f zero i h = refl
hit_not f (suc n) i h = two (nat_eq (f n) i) (hit f n i) (nat_eq_not (f n) i (h n (omega arith))) (hit_not f n i (λ k l. h k (omega arith)))
  where
    two : (a b : Bool) → a ≡ false → b ≡ false → (a || b) ≡ false
    two a b e g = grind arith

count_none : (n : ℕ) → count (λ (i : ℕ). false) n ≡ 0
unfolding count
count_none zero = refl
count_none (suc n) = let k : count (λ (i : ℕ). false) n ≡ 0 = count_none n in omega arith

hits : (f : ℕ → ℕ) (n d : ℕ) → ((k : ℕ) → k < n → f k < d) → ((j k : ℕ) → j < k → k < n → f j ≡ f k → ⊥) → count (hit f n) d ≡ n
hits f zero d low once = count_none d
hits f (suc n) d low once =
    let rest : count (hit f n) d ≡ n = hits f n d (λ k l. low k (omega arith)) (λ j k a b. once j k a (omega arith)) in
    let more : count (hit f (suc n)) d ≡ count (hit f n) d + 1 = count_one (hit f (suc n)) (hit f n) (f n) d (low n (omega arith)) (or_left (nat_eq (f n) (f n)) (hit f n (f n)) (nat_eq_at (f n) (f n) refl))
    (hit_not f n (f n) (λ k l e. once k n l (omega arith) e)) (λ i l a. ap (λ b. b || hit f n i) (nat_eq_not (f n) i (λ e. a (sym e)))) in
    omega arith

pub few : (f : ℕ → ℕ) (n d : ℕ) → ((k : ℕ) → k < n → f k < d) → ((j k : ℕ) → j < k → k < n → f j ≡ f k → ⊥) → n ≤ d
few f n d low once = let a : count (hit f n) d ≡ n = hits f n d low once in let b : count (hit f n) d ≤ d = count_most (hit f n) d in omega arith

-- the commands of a list of places
pub ranked_in : (cmd : ℕ → Change) (ps : List ℕ) (k : ℕ) → k < length ps → is_in (map cmd ps) (cmd (slice_index ps k)) ≡ true
ranked_in cmd [] k l = absurd (omega arith)
ranked_in cmd (p ∷ ps) zero l = or_left (same_change (cmd p) (cmd p)) (is_in (map cmd ps) (cmd p)) (same_change_at (cmd p) (cmd p) refl)
ranked_in cmd (p ∷ ps) (suc k) l = or_right (same_change (cmd (slice_index ps k)) (cmd p)) (is_in (map cmd ps) (cmd (slice_index ps k))) (ranked_in cmd ps k (omega arith))

pub ranked_from : (cmd : ℕ → Change) (ps : List ℕ) (c : Change) → is_in (map cmd ps) c ≡ true → (k : ℕ) × (k < length ps) × (cmd (slice_index ps k) ≡ c)
ranked_from cmd [] c e = cc (e)
ranked_from cmd (p ∷ ps) c e = go (or_cases (same_change c (cmd p)) (is_in (map cmd ps) c) e) (ranked_from cmd ps c)
  where
    Out : Type 0
    Out = (k : ℕ) × (k < length (p ∷ ps)) × (cmd (slice_index (p ∷ ps) k) ≡ c)

    later : (k : ℕ) × (k < length ps) × (cmd (slice_index ps k) ≡ c) → Out
    later (k, l, is) = (suc k, omega arith, is)

    go : (same_change c (cmd p) ≡ true) ⊎ (is_in (map cmd ps) c ≡ true) → (is_in (map cmd ps) c ≡ true → (k : ℕ) × (k < length ps) × (cmd (slice_index ps k) ≡ c)) → Out
    go (inl a) ih = (zero, omega arith, sym (same_change_is c (cmd p) a))
    go (inr a) ih = later (ih a)

pub ranked_differ : (cmd : ℕ → Change) (ps : List ℕ) → ((j k : ℕ) → j < k → k < length ps → cmd (slice_index ps j) ≡ cmd (slice_index ps k) → ⊥) → all_differ (map cmd ps) ≡ true
ranked_differ cmd [] h = refl
ranked_differ cmd (p ∷ ps) h = two (is_in (map cmd ps) (cmd p)) (all_differ (map cmd ps)) none (ranked_differ cmd ps (λ j k a l. h (suc j) (suc k) (omega arith) (omega arith)))
  where
    two : (x y : Bool) → (x ≡ true → ⊥) → y ≡ true → (not x && y) ≡ true
    two true y f e = absurd (f refl)
    two false y f e = e

    none : is_in (map cmd ps) (cmd p) ≡ true → ⊥
    none e = go (ranked_from cmd ps (cmd p) e)
      where
        go : (k : ℕ) × (k < length ps) × (cmd (slice_index ps k) ≡ cmd p) → ⊥
        go (k, l, is) = h zero (suc k) (omega arith) (omega arith) (sym is)
