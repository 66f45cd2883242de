-- What is known of an object of the outside, and its count of faults.
use Rattle.std.specs.Prelude.{◌+◌, ◌-◌, ◌^◌, ◌≤◌, min, ℕ, ⊤, Option, None, Some}

-- its contents, where they are known, and how many faults it counted
pub record PortState (A : Type 0) : Type 0 where
  pub contents : Option A
  pub faults : ℕ

-- nothing is known but the count
abbrev pub unknown_but : {A : Type 0} → ℕ → PortState A
unknown_but n = record { contents = None; faults = n }

-- both are known and P holds of them, or neither is
abbrev pub IfBoth : {A : Type 0} → Option A → Option A → (A → A → Type 0) → Type 0
IfBoth None None P = ⊤
IfBoth None (Some n) P = ⊥
IfBoth (Some m) None P = ⊥
IfBoth (Some m) (Some n) P = P m n

-- Contents that are known go on being known, and P holds of those before and after. Where they
-- are not known, they stay so.
abbrev pub IfKnown : {A : Type 0} → PortState A → PortState A → (A → A → Type 0) → Type 0
IfKnown before now P = IfBoth before.contents now.contents P

-- the number after a number; it stays at u64's last value
abbrev pub next_number : ℕ → ℕ
next_number n = min (n + 1) (2 ^ 64 - 1)

-- the sum; it stays at u64's last value
abbrev pub sum_within : ℕ → ℕ → ℕ
sum_within m n = min (m + n) (2 ^ 64 - 1)

-- a fault was counted; a count that stands at u64's last value passes for one that has risen
abbrev pub FaultCounted : {A : Type 0} → PortState A → PortState A → Type 0
FaultCounted before now = next_number before.faults ≤ now.faults
