-- What the logs demand of one node, as a list by log.
use Rattle.std.specs.Prelude.{◌≡◌, ℕ, ◌+◌, ◌<◌, ◌≤◌, Bool, true, false, List, length, slice_get, Option, Some, None}
use Rattle.sync_command.specs.declared.values.Value.TheVariants as value
use Rattle.refluent.specs.Needs.{Need, Anything, AnyDirectory, Exactly, are_incompatible}
use Rattle.refluent.specs.declared.demands.Demand.{Demand}
use Rattle.refluent.specs.declared.demands.Demand.TheVariants as demand

-- the need that a demand stands for: where nothing may be, exactly Empty
abbrev pub demanded : Demand → Need
demanded demand.Anything = Anything
demanded demand.AnyDirectory = AnyDirectory
demanded demand.Absent = Exactly value.Empty
demanded (demand.Exactly v) = Exactly v.now

abbrev pub are_incompatible_demands : Demand → Demand → Bool
are_incompatible_demands d e = are_incompatible (demanded d) (demanded e)

-- no demand from the one place on, before the other, is incompatible with the given one
abbrev pub NoneIncompatible : List Demand → Demand → ℕ → ℕ → Type 0
NoneIncompatible ds d from to =
    (k : ℕ) (e : Demand) → from ≤ k → k < to → slice_get ds k ≡ Some e → are_incompatible_demands d e ≡ false

pub record IsIncompatibleAt (ds : List Demand) (d : Demand) (from to : ℕ) : Type 0 where
  pub high : from ≤ to
  pub other : Demand
  pub at : slice_get ds to ≡ Some other
  pub apart : are_incompatible_demands d other ≡ true
  pub first : NoneIncompatible ds d from to

-- the first place, from one on, whose demand is incompatible with the given one
abbrev pub IsFirstIncompatible : List Demand → Demand → ℕ → Option ℕ → Type 0
IsFirstIncompatible ds d from None = NoneIncompatible ds d from (length ds)
IsFirstIncompatible ds d from (Some to) = IsIncompatibleAt ds d from to

-- no place before the row has one after it that is incompatible with it
abbrev pub NoPair : List Demand → ℕ → Type 0
NoPair ds row =
    (i : ℕ) (d : Demand) → i < row → slice_get ds i ≡ Some d → NoneIncompatible ds d (i + 1) (length ds)

pub record IsPairAt (ds : List Demand) (i j : ℕ) : Type 0 where
  pub rows : NoPair ds i
  pub demand : Demand
  pub at : slice_get ds i ≡ Some demand
  pub apart : IsIncompatibleAt ds demand (i + 1) j

-- the least pair of places whose demands are incompatible, by the first and then by the second
abbrev pub IsLeastPair : List Demand → Option (ℕ × ℕ) → Type 0
IsLeastPair ds None = NoPair ds (length ds)
IsLeastPair ds (Some pair) = IsPairAt ds pair.0 pair.1
