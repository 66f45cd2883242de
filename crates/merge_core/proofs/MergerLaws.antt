-- The laws of first mergers, over the drawn commands of logs.
use Rattle.std.proofs.Common.{◌≡◌, ◌↔◌, Bool, true, false, List, [], ◌∷◌, ◌++◌, IsTrue, refl, sym, ap, ◌∙◌}
use Rattle.std.specs.List.{list_any}
use Rattle.sync_command.specs.Changes.{Change}
use Rattle.sync_command.specs.Trees.{one_each}
use Rattle.sync_command.specs.Maps.{Store, at}
use Rattle.canon_set.specs.Sets.{canonical}
use Rattle.refluent.specs.Sets.{is_in, IsSubset, HaveSameCommands}
use Rattle.refluent.specs.CommonTrees.{AllChange, IsCommonTree}
use Rattle.refluent.specs.Drawn.{in_turn, drawn_commands}
use Rattle.pref_list.specs.declared.rules.Rule.{Rule}
use Rattle.pref_list.specs.Ranking.{expansions, ranking}
use Rattle.refluent.specs.Joints.{net_sets}
use Rattle.merge_core.specs.Steering.{steering_rules}
use Rattle.refluent.specs.Mergers.{IsMerger}
use Rattle.merge_core.specs.FirstMergers.{is_preferred, IsFirstMerger, IsExtendable}
use Rattle.merge_core.specs.Conflicts.{conflicts, greedy_scan}
use Rattle.refluent.proofs.CallerLemmas.{common_holding, IsCommon, drawn_known, is_in-canonical, more}
use Rattle.pref_list.proofs.CallerLemmas.{drawn_ranked, ranked_once, ranking_drawn}
use Rattle.merge_core.proofs.Exactness.{blocks, blocks_exactly}
use Rattle.merge_core.proofs.FirstMergers.{first_for_each}
use Rattle.merge_core.proofs.Greedy.{blocks_is, greedy_first}
use Rattle.merge_core.proofs.Preferring.{one_first, preferred_once}
use Rattle.merge_core.proofs.Steered.{steered}
use Rattle.merge_core.proofs.Steering.{steered_first}

module _ (logs : List (List Change)) (change : AllChange logs) where
  module _ (m : Store) (common : IsCommonTree m logs) where
    holding : IsCommon (at m) logs
    holding = common_holding logs change m common

    pub greedy_law : (rules : List Rule) → IsFirstMerger (at m) (drawn_commands logs) (ranking logs rules) (greedy_scan (ranking logs rules) [])
    greedy_law rules = greedy_first (at m) (drawn_commands logs) common.tree.tree (drawn_known (at m) logs holding) (ranking logs rules) (ranking_drawn logs rules) (drawn_ranked logs rules) (ranked_once logs rules)

    pub one_first_law : (rules : List Rule) (ms ss : List Change) → IsFirstMerger (at m) (drawn_commands logs) (ranking logs rules) ms → IsFirstMerger (at m) (drawn_commands logs) (ranking logs rules) ss → HaveSameCommands ms ss
    one_first_law rules ms ss = one_first (at m) (drawn_commands logs) (ranking logs rules) ms ss (drawn_ranked logs rules)

    pub steer_law : (ms : List Change) → IsMerger (at m) (drawn_commands logs) ms → IsFirstMerger (at m) (drawn_commands logs) (ranking logs (steering_rules logs ms)) ms
    steer_law ms merger = record {
      merger = merger;
      first = λ other is. preferred_once (expansions (net_sets logs) (steering_rules logs ms) ++ in_turn (net_sets logs)) ms other
          ∙ ap (λ l. is_preferred (l ++ in_turn (net_sets logs)) ms other) (steered logs (canonical ms) (λ c i. merger.within c (to c i)))
          ∙ (steered_first (at m) (drawn_commands logs) (canonical ms) (in_turn (net_sets logs)) ms merger to from).first other is;
    }
      where
        to : IsSubset (canonical ms) ms
        to c i = sym (is_in-canonical ms merger.fits.one c) ∙ i

        from : IsSubset ms (canonical ms)
        from c i = is_in-canonical ms merger.fits.one c ∙ i

    pub conflict_law : (taken : List Change) → IsTrue (one_each taken) → IsExtendable (at m) (drawn_commands logs) taken → (c : Change) → IsTrue (is_in (drawn_commands logs) c) →
        IsExtendable (at m) (drawn_commands logs) (c ∷ taken) ↔ (list_any (conflicts c) taken ≡ false)
    conflict_law taken one ext c there = (
      λ more. none (blocks (at m) (drawn_commands logs) taken c) refl more,
      λ free. exact.1 (same ∙ free),
    )
      where
        same : blocks (at m) (drawn_commands logs) taken c ≡ list_any (conflicts c) taken
        same = blocks_is (at m) (drawn_commands logs) common.tree.tree (drawn_known (at m) logs holding) c there taken one

        exact : (blocks (at m) (drawn_commands logs) taken c ≡ true → IsExtendable (at m) (drawn_commands logs) (c ∷ taken) → ⊥) × (blocks (at m) (drawn_commands logs) taken c ≡ false → IsExtendable (at m) (drawn_commands logs) (c ∷ taken))
        exact = blocks_exactly (at m) (drawn_commands logs) taken common.tree.tree (drawn_known (at m) logs holding) one ext c there

        none : (b : Bool) → blocks (at m) (drawn_commands logs) taken c ≡ b → IsExtendable (at m) (drawn_commands logs) (c ∷ taken) → list_any (conflicts c) taken ≡ false
        none true e more = absurd (exact.0 e more)
        none false e more = sym same ∙ e

  pub each_first_law : (m n : Store) → IsCommonTree m logs → IsCommonTree n logs → (rules : List Rule) (ms : List Change) →
      IsFirstMerger (at m) (drawn_commands logs) (ranking logs rules) ms → IsFirstMerger (at n) (drawn_commands logs) (ranking logs rules) ms
  each_first_law m n first second rules ms = first_for_each (at m) (at n) logs (common_holding logs change m first) (common_holding logs change n second) (ranking logs rules) ms
