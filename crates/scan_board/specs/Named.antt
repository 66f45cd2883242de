-- The keys that have a head, by numbers in ascending order.
use Rattle.std.specs.Prelude.{◌≡◌, ℕ, ◌<◌, List, length, Option, Some, None, slice_index}
use Rattle.scan_board.specs.Linked.{option_at}

-- the first k keys are looked at: those with a head have a number, in ascending order
pub record IsNamed (heads index : List (Option ℕ)) (back : List ℕ) (k : ℕ) : Type 0 where
  pub len : length index ≡ k
  pub back_in : (n : ℕ) → n < length back → slice_index back n < k
  pub back_is : (n : ℕ) → n < length back → option_at index (slice_index back n) ≡ Some n
  pub index_at : (q n : ℕ) → q < k → option_at index q ≡ Some n → (n < length back) × (slice_index back n ≡ q)
  pub has_head : (n : ℕ) → n < length back → option_at heads (slice_index back n) ≡ None → ⊥
  pub named : (q i : ℕ) → q < k → option_at heads q ≡ Some i → option_at index q ≡ None → ⊥
  pub rising : (n m : ℕ) → n < m → m < length back → slice_index back n < slice_index back m
