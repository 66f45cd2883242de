-- The first merger for one common tree is the first merger for each.
use Rattle.std.proofs.Common.{List, ◌∷◌}
use Rattle.refluent.specs.Drawn.{drawn_commands}
use Rattle.refluent.specs.Mergers.{IsMerger}
use Rattle.merge_core.specs.FirstMergers.{IsFirstMerger}
use Rattle.sync_command.specs.Changes.{Change}
use Rattle.sync_command.specs.Trees.{Holding}
use Rattle.refluent.proofs.CallerLemmas.{IsCommon, drawn_fits_each, more}

pub first_for_each : (t u : Holding) (logs : List (List Change)) → IsCommon t logs → IsCommon u logs → (ranking ms : List Change) → IsFirstMerger t (drawn_commands logs) ranking ms → IsFirstMerger u (drawn_commands logs) ranking ms
first_for_each t u logs ct cu ranking ms first = record {
  merger = over t u ct cu ms first.merger;
  first = λ ss other. first.first ss (over u t cu ct ss other);
}
  where
    over : (t u : Holding) → IsCommon t logs → IsCommon u logs → (ss : List Change) → IsMerger t (drawn_commands logs) ss → IsMerger u (drawn_commands logs) ss
    over t u ct cu ss merger = record {
      within = merger.within;
      fits = drawn_fits_each t u logs ct cu ss merger.within merger.fits;
      maximal = λ c there missing fits. merger.maximal c there missing (drawn_fits_each u t logs cu ct (c ∷ ss) (more c ss (drawn_commands logs) there merger.within) fits);
    }
