-- What a counter keeps of its number at run time.
use Rattle.std.specs.Prelude.{◌≡◌, ◌<◌, ◌≤◌, ◌-◌, ◌^◌, ℕ}

-- the number itself, or 2^64 - 1 from there on
pub record IsKept (kept number : ℕ) : Type 0 where
  pub small : number < 2 ^ 64 → kept ≡ number
  pub large : 2 ^ 64 ≤ number → kept ≡ 2 ^ 64 - 1
