-- Each listed reason explains its command.
use Rattle.std.proofs.Common.{◌≡◌, ℕ, zero, suc, Bool, true, false, not, ◌||◌, List, [], ◌∷◌, Some, refl, sym, ap, subst, ◌∙◌}
use Rattle.std.specs.Prelude.{if◌then◌else◌}
use Rattle.sync_command.specs.Changes.{Change}
use Rattle.sync_command.specs.Trees.{Fits, command_at, one_each}
use Rattle.sync_command.specs.Maps.{Store, at}
use Rattle.canon_set.specs.Logs.{net}
use Rattle.refluent.specs.CommonTrees.{IsCommonTree, least_common_tree}
use Rattle.refluent.specs.Drawn.{drawn_commands, in_turn}
use Rattle.refluent.specs.Joints.{Joined, StandsForAll, net_sets}
use Rattle.refluent.specs.Mergers.{IsMerger}
use Rattle.refluent.specs.Sets.{IsSubset, is_in}
use Rattle.sync_path.proofs.CallerLemmas.{both}
use Rattle.canon_set.proofs.CallerLemmas.{one_each-canonical}
use Rattle.refluent.proofs.CallerLemmas.{at_from_in, drawn_is, is_in-append, is_in-filter, is_in-without_repeats}
use Rattle.pref_list.specs.Picks.{first_with, log_of}
use Rattle.pref_list.specs.Ranking.{set_from, set_of}
use Rattle.pref_list.proofs.CallerLemmas.{one_each-net}
use Rattle.explain_core.specs.Chains.{IsFirstChain, is_chain, left_out}
use Rattle.explain_core.specs.FirstChains.{first_chain, first_tree}
use Rattle.explain_core.specs.Reasons.{Explains, Shows, reason_of}
use Rattle.explain_core.specs.declared.reasons.Reason.{Reason}
use Rattle.explain_core.proofs.Barred.{TellConflicts, chain_law}
use Rattle.explain_core.proofs.ChainLaws.{bars_law, least_fits, not_true}
use Rattle.explain_core.proofs.FirstFound.{chain_placed, drawn_placed, first_is, tree_is}
use Rattle.explain_core.proofs.Placing.{place_at}

-- the set of the least log that has a command has it
first_has : (sets : List (List Change)) (c : Change) → is_in (in_turn sets) c ≡ true → is_in (set_from sets (first_with sets c)) c ≡ true
first_has [] c e = cc (e)
first_has (set ∷ sets) c e = go (is_in set c) refl (sym (is_in-append set (in_turn sets) c) ∙ e) (first_has sets c)
  where
    go : (b : Bool) → is_in set c ≡ b → (b || is_in (in_turn sets) c) ≡ true → (is_in (in_turn sets) c ≡ true → is_in (set_from sets (first_with sets c)) c ≡ true) → is_in (set_from (set ∷ sets) (if b then zero else suc (first_with sets c))) c ≡ true
    go true here e rec = here
    go false here e rec = rec e

one_from : (logs : List (List Change)) (k : ℕ) → one_each (set_from (net_sets logs) k) ≡ true
one_from [] k = refl
one_from (log ∷ logs) zero = one_each-canonical (net log) (one_each-net log)
one_from (log ∷ logs) (suc k) = one_from logs k

module _ (j : Joined) (logs : List (List Change)) (stands : StandsForAll j logs) where
  own_command : (c : Change) → is_in (drawn_commands logs) c ≡ true → command_at (set_of j.sets (log_of j.sets c)) c.node ≡ Some c
  own_command c there =
      let turn : is_in (in_turn j.sets) c ≡ true = sym (is_in-without_repeats (in_turn j.sets) c) ∙ ap (λ l. is_in l c) (drawn_is j logs stands) ∙ there in
      at_from_in (set_from j.sets (first_with j.sets c)) (ap (λ s. one_each (set_from s (first_with j.sets c))) stands.sets ∙ one_from logs (first_with j.sets c)) c (first_has j.sets c turn)

  module _ (tell_conflicts : TellConflicts) (m : Store) (common : IsCommonTree m logs) (ms : List Change) (merger : IsMerger (at m) (drawn_commands logs) ms) where
    on_least : Fits (least_common_tree logs) ms
    on_least = least_fits logs stands.change m common ms merger.within merger.fits

    on_first : Fits (first_tree j) ms
    on_first = subst (λ t. Fits t ms) (sym (tree_is j logs stands)) on_least

    pub first_found : (c : Change) → is_in (drawn_commands logs) c ≡ true → is_in ms c ≡ false → IsFirstChain (least_common_tree logs) ms c (first_chain j ms c)
    first_found c there missing =
        let chain = chain_law tell_conflicts logs stands.change m common ms merger c there missing in
        let tree = tree_is j logs stands in
        subst (λ t. IsFirstChain t ms c (first_chain j ms c)) tree
        (first_is j stands.order ms on_first (λ d i. drawn_placed j logs stands d (merger.within d i)) c chain.0 (subst (λ t. is_chain t ms c chain.0 ≡ true) (sym tree) chain.1))

    -- Each listed reason names the least log, the node and the first chain.
    pub explain_law : (c : Change) → is_in (left_out logs ms) c ≡ true → Explains j logs ms c (reason_of j ms c)
    explain_law c there =
        let parts = both (is_in (drawn_commands logs) c) (not (is_in ms c)) (sym (is_in-filter (λ d. not (is_in ms d)) (drawn_commands logs) c) ∙ there) in
        let place = drawn_placed j logs stands c parts.0 in
        let first = first_found c parts.0 (not_true (is_in ms c) parts.1) in
        record {
          log = refl;
          own = own_command c parts.0;
          node = place_at j.nodes stands.order place.0 c.node place.1;
          via = first_chain j ms c;
          along = chain_placed j logs stands ms merger.within c parts.0 (first_chain j ms c) first.chain;
          first = first;
        }

-- Where a reason is shown, no set that fits has both its command and the whole set.
pub shown_law : (j : Joined) (ms : List Change) (r : Reason) (s : Shows j ms r) (m : Store) → (whole : List Change) → Fits (at m) whole → IsSubset (s.command ∷ ms) whole → ⊥
shown_law j ms r s m whole = bars_law (first_tree j) (at m) ms s.command s.out s.via s.chain whole
