-- The commands that a transition is made of.
use Rattle.std.proofs.Common.{◌≡◌, Bool, true, false, not, ◌||◌, List, [], ◌∷◌, Option, Some, None, refl, sym, ap, subst, ◌∙◌, ◌⊎◌, inl, inr}
use Rattle.std.specs.Prelude.{if◌then◌else◌}
use Rattle.sync_path.proofs.CallerLemmas.{both}
use Rattle.sync_command.specs.declared.values.Value.{Value}
use Rattle.sync_command.specs.Values.{same_value}
use Rattle.sync_command.specs.Changes.{Change, is_change}
use Rattle.sync_command.specs.Trees.{command_at, one_each}
use Rattle.sync_command.specs.Maps.{Store, at}
use Rattle.sync_command.proofs.CallerLemmas.{command_at-node, one_each-filter}
use Rattle.canon_set.specs.Logs.{net, touches}
use Rattle.canon_set.specs.Sets.{canonical}
use Rattle.canon_set.proofs.CallerLemmas.{one_each-touches}
use Rattle.refluent.specs.Sets.{is_in, IsSubset}
use Rattle.refluent.specs.CommonTrees.{IsAmong, AllChange, IsCommonTree}
use Rattle.refluent.specs.Drawn.{drawn_commands, nets_in_turn}
use Rattle.refluent.proofs.CallerLemmas.{IsCommon, in_from_at, at_from_in, is_in-append, is_in-canonical, is_in-filter, is_in-without_repeats, old_held, common_holding, net_in}
use Rattle.transition.specs.Transitions.{transition, IsNetCommand, IsMadeOfNets}
use Rattle.transition.proofs.TransitionLaws.{difference_by, transition_by, one_each-transition}

pub one_each-net : (log : List Change) → one_each (net log) ≡ true
one_each-net log = one_each-filter is_change (touches log) (one_each-touches log)

-- each command in turn is of a net set
net_command : (logs : List (List Change)) (c : Change) → is_in (nets_in_turn logs) c ≡ true → IsNetCommand logs c
net_command [] c e = cc (e)
net_command (log ∷ logs) c e = split (either _ _ (sym (is_in-append (canonical (net log)) (nets_in_turn logs) c) ∙ e)) (net_command logs c)
  where
    either : (a b : Bool) → (a || b) ≡ true → (a ≡ true) ⊎ (b ≡ true)
    either true b e = inl refl
    either false b e = inr e

    split : (is_in (canonical (net log)) c ≡ true) ⊎ (is_in (nets_in_turn logs) c ≡ true) → (is_in (nets_in_turn logs) c ≡ true → IsNetCommand logs c) → IsNetCommand (log ∷ logs) c
    split (inl h) rec = record { log = log; among = inl refl; is = sym (is_in-canonical (net log) (one_each-net log) c) ∙ h }
    split (inr h) rec = let f = rec h in record { log = f.log; among = inr f.among; is = f.is }

pub drawn_net : (logs : List (List Change)) (c : Change) → is_in (drawn_commands logs) c ≡ true → IsNetCommand logs c
drawn_net logs c e = net_command logs c (sym (is_in-without_repeats (nets_in_turn logs) c) ∙ e)

-- net commands change their nodes' values
pub net_change : (logs : List (List Change)) (c : Change) → IsNetCommand logs c → is_change c ≡ true
net_change logs c of = (both (is_in (touches of.log) c) (is_change c) (sym (is_in-filter is_change (touches of.log) c) ∙ of.is)).1

-- the law of what a transition's commands are made of
module _ (logs : List (List Change)) (change : AllChange logs) (m : Store) (common : IsCommonTree m logs) (log : List Change) (among : IsAmong log logs) (ms : List Change) (part : IsSubset ms (drawn_commands logs)) where
  pub made_of_nets : (c : Change) → is_in (transition (at m) (net log) ms) c ≡ true → IsMadeOfNets logs c
  made_of_nets c e =
      go (command_at (net log) c.node) (command_at ms c.node) (λ d f. (own d f, held (net log) (net_in (at m) logs whole log among) d f)) (λ d f. (drawn_net logs d (part d (in_from_at ms c.node d f)), held ms part d f)) (λ d f. command_at-node (net log) c.node d f) (λ d f. command_at-node ms c.node d f)
      (sym (transition_by (at m) (net log) ms c.node) ∙ at_from_in (transition (at m) (net log) ms) (one_each-transition (at m) (net log) ms) c e)
    where
      whole : IsCommon (at m) logs
      whole = common_holding logs change m common

      held : (cs : List Change) → IsSubset cs (drawn_commands logs) → (d : Change) → command_at cs c.node ≡ Some d → at m c.node ≡ d.old
      held cs within d f = old_held (at m) logs whole cs within c.node d f

      own : (d : Change) → command_at (net log) c.node ≡ Some d → IsNetCommand logs d
      own d f = record { log = log; among = among; is = in_from_at (net log) c.node d f }

      part_of : (b : Bool) (v w : Value) → (if b then Some (record { node = c.node; old = v; new = w }) else None) ≡ Some c → (v ≡ c.old) × (w ≡ c.new)
      part_of true v w f = let g : ◌≡◌ {A = Change} (record { node = c.node; old = v; new = w }) c = cc in (ap (λ x. x.old) g, ap (λ x. x.new) g)
      part_of false v w f = cc (f)

      go : (o r : Option Change) → ((d : Change) → o ≡ Some d → IsNetCommand logs d × (at m c.node ≡ d.old)) → ((d : Change) → r ≡ Some d → IsNetCommand logs d × (at m c.node ≡ d.old)) →
          ((d : Change) → o ≡ Some d → c.node ≡ d.node) → ((d : Change) → r ≡ Some d → c.node ≡ d.node) → difference_by (at m) c.node o r ≡ Some c → IsMadeOfNets logs c
      go None None one other here there f = cc (f)
      go None (Some d) one other here there f =
          let h = other d refl in let v = part_of (not (same_value (at m c.node) d.new)) (at m c.node) d.new f in
          inl (subst (IsNetCommand logs) (λ i. record { node = sym (there d refl) i; old = (sym h.1 ∙ v.0) i; new = v.1 i }) h.0)
      go (Some d) None one other here there f =
          let h = one d refl in let v = part_of (not (same_value d.new (at m c.node))) d.new (at m c.node) f in
          inr (inl (subst (IsNetCommand logs) (λ i. record { node = sym (here d refl) i; old = (sym h.1 ∙ v.1) i; new = v.0 i }) h.0))
      go (Some d) (Some d') one other here there f =
          let v = part_of (not (same_value d.new d'.new)) d.new d'.new f in
          inr (inr (record { first = d; second = d'; from = (one d refl).0; to = (other d' refl).0; nodes = (sym (here d refl), sym (there d' refl)); old = sym v.0; new = sym v.1 }))
