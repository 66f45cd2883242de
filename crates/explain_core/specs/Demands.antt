-- Demands on the nodes of a chain, and places that are a joint's.
use Rattle.std.specs.Prelude.{◌<◌, ℕ, Bool, List, EachIndex, slice_index}
use Rattle.sync_command.specs.declared.values.Value.{Value}
use Rattle.sync_command.specs.Values.{is_dir, is_empty}
use Rattle.explain_core.specs.declared.showing.Demand.{Demand}
use Rattle.explain_core.specs.declared.showing.Demand.TheVariants.{Directory, Nothing}

-- the values that meet a demand
abbrev pub is_met : Demand → (Value → Bool)
is_met Directory = is_dir
is_met Nothing = is_empty

-- each of the places is below the number of nodes
abbrev pub AreWithin : ℕ → List ℕ → Type 0
AreWithin count places = EachIndex places (λ k. slice_index places k < count)
