-- A drawn set fits exactly where it has one command per node, its prerequisites and no clash.
use Rattle.std.proofs.Common.{◌≡◌, ◌↔◌, true, List}
use Rattle.sync_command.specs.Changes.{Change}
use Rattle.sync_command.specs.Trees.{one_each, Fits}
use Rattle.sync_command.specs.Maps.{Store, at}
use Rattle.refluent.specs.Sets.{IsSubset}
use Rattle.refluent.specs.CommonTrees.{AllChange, IsCommonTree}
use Rattle.refluent.specs.Drawn.{drawn_commands}
use Rattle.refluent.specs.Clashes.{HasNoClash}
use Rattle.refluent.specs.Prerequisites.{HoldsPrerequisites}
use Rattle.refluent.proofs.CallerLemmas.{has_no_clash, leaves_no_child}
use Rattle.refluent.proofs.CallerLemmas.{common_holding, IsCommon, old_held, fits_from_parts, fits_leaves_no_child, fits_prerequisites}

module _ (logs : List (List Change)) (change : AllChange logs) (m : Store) (common : IsCommonTree m logs) where
  holding : IsCommon (at m) logs
  holding = common_holding logs change m common

  pub prerequisites_law : (ms : List Change) → IsSubset ms (drawn_commands logs) → Fits (at m) ms ↔ ((one_each ms ≡ true) × HoldsPrerequisites (at m) ms × HasNoClash ms)
  prerequisites_law ms part = (
    λ fits. (fits.one, fits_prerequisites (at m) ms common.tree.tree fits, has_no_clash ms fits.one (fits_leaves_no_child (at m) ms fits)),
    λ parts. fits_from_parts (at m) ms common.tree.tree parts.0 (old_held (at m) logs holding ms part) parts.1 (leaves_no_child ms parts.2),
  )
