-- Mergers.
use Rattle.std.specs.Prelude.{◌≡◌, true, false, List, ◌∷◌}
use Rattle.sync_command.specs.Changes.{Change}
use Rattle.sync_command.specs.Trees.{Holding, Fits}
use Rattle.refluent.specs.Sets.{is_in, IsSubset}

-- a set of drawn commands that fits the tree, and no further drawn command fits with it
pub record IsMerger (t : Holding) (drawn merger : List Change) : Type 0 where
  pub within : IsSubset merger drawn
  pub fits : Fits t merger
  pub maximal : (c : Change) → is_in drawn c ≡ true → is_in merger c ≡ false → Fits t (c ∷ merger) → ⊥
