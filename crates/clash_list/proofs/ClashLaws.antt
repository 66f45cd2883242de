-- Where no two drawn commands clash they fit, and are the only merger.
use Rattle.std.proofs.Common.{◌≡◌, ◌↔◌, true, List, Some, ap, ◌∙◌}
use Rattle.sync_path.specs.Paths.{Node}
use Rattle.sync_command.specs.Changes.{Change}
use Rattle.sync_command.specs.Trees.{Holding, IsTree, command_at, one_each, Fits}
use Rattle.sync_command.specs.Maps.{Store, at}
use Rattle.sync_command.proofs.CallerLemmas.{command_at-node}
use Rattle.refluent.specs.Sets.{HaveSameCommands}
use Rattle.refluent.specs.CommonTrees.{AllChange, IsCommonTree}
use Rattle.refluent.specs.Drawn.{nets_in_turn, drawn_commands}
use Rattle.refluent.specs.Clashes.{HasNoClash}
use Rattle.refluent.specs.Mergers.{IsMerger}
use Rattle.refluent.specs.Prerequisites.{HoldsPrerequisites}
use Rattle.refluent.proofs.CallerLemmas.{IsWithin, merger_whole, LeavesNoChild, fits_from_parts, fits_prerequisites, fits_leaves_no_child, has_no_clash, leaves_no_child, one_from_no_clash, common_holding, IsCommon, IsDrawn, drawn_known, all_differ-without_repeats, at_from_in, in_from_at}

-- a set within the drawn commands that has the command and fits
pub record IsDrawnAt (t : Holding) (drawn : List Change) (p : Node) (c : Change) : Type 0 where
  pub set : List Change
  pub fits : Fits t set
  pub within : IsWithin set drawn
  pub there : command_at set p ≡ Some c

-- The drawn commands hold the prerequisites of each of them.
drawn_prerequisites : (t : Holding) (drawn : List Change) → IsTree t → ((p : Node) (c : Change) → command_at drawn p ≡ Some c → IsDrawnAt t drawn p c) → HoldsPrerequisites t drawn
drawn_prerequisites t drawn tree from = record {
  makes = λ q n c e at old new bare. let s = from n c at in let d = (fits_prerequisites t s.set tree s.fits).makes q n c e s.there old new bare in (d.0, s.within q d.0 d.1, d.2);
  clears = λ q n d e at old new full. let s = from q d at in let c = (fits_prerequisites t s.set tree s.fits).clears q n d e s.there old new full in (c.0, s.within n c.0 c.1, c.2);
}

drawn_fit : (t : Holding) (drawn : List Change) → IsTree t → one_each drawn ≡ true → ((p : Node) (c : Change) → command_at drawn p ≡ Some c → IsDrawnAt t drawn p c) → LeavesNoChild drawn → Fits t drawn
drawn_fit t drawn tree one from apart = fits_from_parts t drawn tree one (λ n c e. (from n c e).fits.olds n c (from n c e).there) (drawn_prerequisites t drawn tree from) apart

module _ (logs : List (List Change)) (change : AllChange logs) (m : Store) (common : IsCommonTree m logs) where
  holding : IsCommon (at m) logs
  holding = common_holding logs change m common

  all_fit : HasNoClash (drawn_commands logs) → Fits (at m) (drawn_commands logs)
  all_fit apart = drawn_fit (at m) (drawn_commands logs) common.tree.tree one from (leaves_no_child (drawn_commands logs) apart)
    where
      one : one_each (drawn_commands logs) ≡ true
      one = one_from_no_clash (drawn_commands logs) (all_differ-without_repeats (nets_in_turn logs)) apart

      from : (p : Node) (c : Change) → command_at (drawn_commands logs) p ≡ Some c → IsDrawnAt (at m) (drawn_commands logs) p c
      from p c e =
          let k : IsDrawn (at m) (drawn_commands logs) c = drawn_known (at m) logs holding c (in_from_at (drawn_commands logs) p c e) in
          record {
            set = k.set;
            fits = k.fits;
            within = λ q d f. ap (command_at (drawn_commands logs)) (command_at-node k.set q d f) ∙ at_from_in (drawn_commands logs) one d (k.part d (in_from_at k.set q d f));
            there = ap (command_at k.set) (command_at-node (drawn_commands logs) p c e) ∙ at_from_in k.set k.fits.one c k.there;
          }

  -- There is no clash exactly where the drawn commands fit,
  pub clash_law : HasNoClash (drawn_commands logs) ↔ Fits (at m) (drawn_commands logs)
  clash_law = (all_fit, λ fits. has_no_clash (drawn_commands logs) fits.one (fits_leaves_no_child (at m) (drawn_commands logs) fits))

  -- and then they are the only merger.
  pub only_law : HasNoClash (drawn_commands logs) → IsMerger (at m) (drawn_commands logs) (drawn_commands logs) × ((ms : List Change) → IsMerger (at m) (drawn_commands logs) ms → HaveSameCommands ms (drawn_commands logs))
  only_law apart = (
    record { within = λ c i. i; fits = all_fit apart; maximal = λ c i missing fits. cc (i, missing) },
    λ ms merger. (merger.within, merger_whole (at m) (drawn_commands logs) ms (drawn_commands logs) merger (λ c e. e) (all_fit apart) merger.within),
  )
