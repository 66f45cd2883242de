-- Lists with one more element at their end, or with one element written.
use Rattle.std.proofs.Common.{◌≡◌, ℕ, zero, suc, ◌<◌, List, [], ◌∷◌, ◌++◌, length, Some, refl, ap, arith, ◌⊎◌, inl, inr}
use Rattle.std.specs.List.{slice_get}
use Rattle.std.specs.Prelude.{slice_set}

pub last_or : {X : Type 0} (xs : List X) (x : X) (i : ℕ) (y : X) → slice_get (xs ++ x ∷ []) i ≡ Some y → (slice_get xs i ≡ Some y) ⊎ ((i ≡ length xs) × (y ≡ x))
last_or [] x zero y e = inr (refl, same e)
  where
    same : Some x ≡ Some y → y ≡ x
    same e = cc
last_or [] x (suc i) y e = cc (e)
last_or (z ∷ xs) x zero y e = inl e
last_or (z ∷ xs) x (suc i) y e = go (last_or xs x i y e)
  where
    go : (slice_get xs i ≡ Some y) ⊎ ((i ≡ length xs) × (y ≡ x)) → (slice_get xs i ≡ Some y) ⊎ ((suc i ≡ length (z ∷ xs)) × (y ≡ x))
    go (inl at) = inl at
    go (inr same) = inr (let e : i ≡ length xs = same.0 in omega arith, same.1)

pub first_part : {X : Type 0} (xs ys : List X) (i : ℕ) (y : X) → slice_get xs i ≡ Some y → slice_get (xs ++ ys) i ≡ Some y
first_part [] ys i y e = cc (e)
first_part (x ∷ xs) ys zero y e = e
first_part (x ∷ xs) ys (suc i) y e = first_part xs ys i y e

pub at_end : {X : Type 0} (xs : List X) (x : X) → slice_get (xs ++ x ∷ []) (length xs) ≡ Some x
at_end [] x = refl
at_end (y ∷ xs) x = at_end xs x

-- ---- one element written

pub set_or : {X : Type 0} (xs : List X) (i : ℕ) (x : X) (k : ℕ) (y : X) → slice_get (slice_set xs i x) k ≡ Some y → ((k ≡ i) × (y ≡ x)) ⊎ ((k ≡ i → ⊥) × (slice_get xs k ≡ Some y))
set_or [] i x k y e = cc (e)
set_or (z ∷ xs) zero x zero y e = inl (refl, same e)
  where
    same : Some x ≡ Some y → y ≡ x
    same e = cc
set_or (z ∷ xs) zero x (suc k) y e = inr (λ n. absurd (omega arith), e)
set_or (z ∷ xs) (suc i) x zero y e = inr (λ n. absurd (omega arith), e)
set_or (z ∷ xs) (suc i) x (suc k) y e = go (set_or xs i x k y e)
  where
    go : ((k ≡ i) × (y ≡ x)) ⊎ ((k ≡ i → ⊥) × (slice_get xs k ≡ Some y)) → ((suc k ≡ suc i) × (y ≡ x)) ⊎ ((suc k ≡ suc i → ⊥) × (slice_get xs k ≡ Some y))
    go (inl same) = inl (ap suc same.0, same.1)
    go (inr other) = inr (λ n. other.0 (let m : k ≡ i = omega arith in m), other.1)

pub set_here : {X : Type 0} (xs : List X) (i : ℕ) (x : X) → i < length xs → slice_get (slice_set xs i x) i ≡ Some x
set_here [] i x low = absurd (omega arith)
set_here (z ∷ xs) zero x low = refl
set_here (z ∷ xs) (suc i) x low = set_here xs i x (omega arith)

pub set_other : {X : Type 0} (xs : List X) (i : ℕ) (x : X) (k : ℕ) (y : X) → (k ≡ i → ⊥) → slice_get xs k ≡ Some y → slice_get (slice_set xs i x) k ≡ Some y
set_other [] i x k y other e = cc (e)
set_other (z ∷ xs) zero x zero y other e = absurd (other refl)
set_other (z ∷ xs) zero x (suc k) y other e = e
set_other (z ∷ xs) (suc i) x zero y other e = e
set_other (z ∷ xs) (suc i) x (suc k) y other e = set_other xs i x k y (λ n. other (ap suc n)) e
