-- Lists of equal keys: the least index of each key, and for each index the next one with its key.
use Rattle.std.specs.Prelude.{◌≡◌, ℕ, ◌<◌, ◌≤◌, List, length, Option, Some, None, unwrap_or, slice_index_or}

abbrev pub IsOptionWithin : Option ℕ → ℕ → Type 0
IsOptionWithin None n = Unit {0}
IsOptionWithin (Some k) n = k < n

abbrev pub option_at : List (Option ℕ) → ℕ → Option ℕ
option_at xs i = slice_index_or xs i None

abbrev pub through : List (Option ℕ) → Option ℕ → Option ℕ
through xs None = None
through xs (Some q) = option_at xs q

-- the indexes from `from` on are linked: each key leads to its least index, and each index to the next with its key
pub record IsLinked (keys : List (Option ℕ)) (buckets : ℕ) (heads nexts : List (Option ℕ)) (from : ℕ) : Type 0 where
  pub heads_len : length heads ≡ buckets
  pub nexts_len : length nexts ≡ length keys
  pub head_at : (q i : ℕ) → q < buckets → option_at heads q ≡ Some i → (from ≤ i) × (i < length keys) × (option_at keys i ≡ Some q)
  pub head_least : (q i : ℕ) → q < buckets → from ≤ i → i < unwrap_or (option_at heads q) (length keys) → option_at keys i ≡ Some q → ⊥
  pub next_in : (i : ℕ) → from ≤ i → i < length keys → i < unwrap_or (option_at nexts i) (length keys)
  pub next_at : (i k : ℕ) → from ≤ i → i < length keys → option_at nexts i ≡ Some k → (k < length keys) × (option_at keys k ≡ option_at keys i)
  pub next_least : (i k q : ℕ) → from ≤ i → i < length keys → i < k → k < unwrap_or (option_at nexts i) (length keys) → option_at keys i ≡ Some q → option_at keys k ≡ Some q → ⊥
