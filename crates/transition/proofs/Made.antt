-- The set that is put together is the transition on every common tree.
use Rattle.std.proofs.Common.{◌≡◌, ℕ, true, List, Some, sym, ap, subst, ◌∙◌}
use Rattle.std.specs.List.{slice_get}
use Rattle.sync_path.specs.Paths.{Node}
use Rattle.sync_command.specs.Changes.{Change}
use Rattle.sync_command.specs.Trees.{command_at, after, one_each, Fits}
use Rattle.sync_command.specs.Maps.{Store, at, stored}
use Rattle.sync_command.proofs.CallerLemmas.{canonical_unique, kept_trees, same_fits}
use Rattle.canon_set.specs.Logs.{net}
use Rattle.canon_set.specs.Sets.{IsFitting, canonical}
use Rattle.canon_set.proofs.CallerLemmas.{net_fits, net_law, command_at-canonical, one_each-canonical, is_canonical-canonical}
use Rattle.refluent.specs.Sets.{is_in, IsSubset}
use Rattle.refluent.specs.CommonTrees.{IsCommonTree}
use Rattle.refluent.specs.Drawn.{drawn_of}
use Rattle.refluent.specs.FirstDisagreements.{log_at}
use Rattle.refluent.specs.Joints.{Joined, IsJoint, StandsForAll}
use Rattle.refluent.proofs.CallerLemmas.{in_from_at, drawn_is, set_is}
use Rattle.transition.specs.Transitions.{transition, FitsCommonTrees}
use Rattle.transition.proofs.TransitionLaws.{canonical_same, difference_by, transition_by, transition_fits, one_each-transition}
use Rattle.transition.proofs.Parting.{parts, one_each-parts, parts_at}
use Rattle.transition.proofs.Nets.{drawn_net, net_change}

module _ (j : Joined) (i : ℕ) (set merger : List Change) (at_log : slice_get j.sets i ≡ Some set) (drawn : IsSubset merger (drawn_of j.sets)) (fits : FitsCommonTrees j merger) where
  module _ (logs : List (List Change)) (m : Store) (stands : StandsForAll j logs) (common : IsCommonTree m logs) where
    log : List Change
    log = log_at logs i

    pub record IsMade : Type 0 where
      pub one : one_each (parts set merger) ≡ true
      pub same : (p : Node) → command_at (parts set merger) p ≡ command_at (transition (at m) (net (log_at logs i)) merger) p
      pub fitting : IsFitting (parts set merger)

    pub is_made : IsMade
    is_made =
        let s = set_is j logs stands i set at_log in
        let takes = common.takes (log_at logs i) s.among in
        let own = (net_fits (at m) (log_at logs i) common.tree.tree takes).0 in
        let there = λ (p : Node). ap (λ l. command_at l p) s.is ∙ command_at-canonical (net (log_at logs i)) own.one p in
        let one = ap one_each s.is ∙ one_each-canonical (net (log_at logs i)) own.one in
        let whole = fits logs m stands common in
        let held = λ (n : Node) (c : Change) (e : command_at set n ≡ Some c). own.olds n c (sym (there n) ∙ e) in
        let changed = λ (n : Node) (d : Change) (e : command_at merger n ≡ Some d). net_change logs d (drawn_net logs d (subst (λ l. is_in l d ≡ true) (drawn_is j logs stands) (drawn d (in_from_at merger n d e)))) in
        let single = one_each-parts (at m) set merger one held whole changed in
        let same = λ (p : Node). parts_at (at m) set merger one held whole changed p ∙ transition_by (at m) set merger p ∙ ap (λ o. difference_by (at m) p o (command_at merger p)) (there p) ∙ sym (transition_by (at m) (net (log_at logs i)) merger p) in
        record {
          one = single;
          same = same;
          fitting = record {
            map = stored m (log_at logs i);
            tree = kept_trees m (log_at logs i) common.tree takes;
            fits = subst (λ u. Fits u (parts set merger)) (sym (net_law m (log_at logs i) common.tree takes).1)
                (same_fits (after (net (log_at logs i)) (at m)) (transition (at m) (net (log_at logs i)) merger) (parts set merger) single (λ p. sym (same p)) (transition_fits (at m) (net (log_at logs i)) merger whole).0);
          };
        }

  pub made_one : IsJoint j → one_each (parts set merger) ≡ true
  made_one joint = (is_made joint.logs joint.stands.common.map joint.stands joint.stands.common.common).one

  pub made_fitting : IsJoint j → IsFitting (parts set merger)
  made_fitting joint = (is_made joint.logs joint.stands.common.map joint.stands joint.stands.common.common).fitting

  pub made_transition : (r : List Change) → r ≡ canonical (parts set merger) → (logs : List (List Change)) (m : Store) → StandsForAll j logs → IsCommonTree m logs → r ≡ canonical (transition (at m) (net (log_at logs i)) merger)
  made_transition r e logs m stands common = let h = is_made logs m stands common in
      e ∙ canonical_same (parts set merger) (transition (at m) (net (log_at logs i)) merger) h.one (one_each-transition (at m) (net (log_at logs i)) merger) h.same
