-- Columns.
use Rattle.std.specs.Prelude.{◌≡◌, ℕ, ◌<◌, List, length, slice_index_or}

-- a column of so many elements: each is as it must be at its place
pub record IsColumn {A : Type 0} (xs : List A) (d : A) (P : ℕ → A → Type 0) (k : ℕ) : Type 0 where
  pub len : length xs ≡ k
  pub at : (j : ℕ) → j < k → P j (slice_index_or xs j d)
