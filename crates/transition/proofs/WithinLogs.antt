-- Mergers and transitions weigh no more than the logs together.
use Rattle.std.proofs.Common.{◌≡◌, ℕ, zero, suc, ◌+◌, ◌≤◌, Bool, true, false, not, ◌&&◌, ◌||◌, List, [], ◌∷◌, ◌++◌, Option, Some, None, refl, sym, ap, subst, ◌∙◌, arith, length, length-append, inl, inr}
use Rattle.std.specs.Prelude.{if◌then◌else◌}
use Rattle.std.specs.List.{filter, sum_by}
use mathlib.Core.Path.{fun_ext}
use Rattle.sync_path.proofs.CallerLemmas.{both}
use Rattle.sync_path.specs.Paths.{Node, path_text}
use Rattle.sync_command.specs.declared.values.Value.{Value}
use Rattle.sync_command.specs.Values.{same_value, value_text}
use Rattle.sync_command.specs.Changes.{Change, inverse}
use Rattle.sync_command.specs.Maps.{Store, at}
use Rattle.sync_command.specs.Trees.{command_at, one_each}
use Rattle.sync_command.proofs.CallerLemmas.{command_at-node, command_at-filter, one_each-filter, passing, same_value_refl}
use Rattle.canon_set.specs.Logs.{net}
use Rattle.canon_set.specs.Sets.{canonical}
use Rattle.canon_set.proofs.CallerLemmas.{net_fits}
use Rattle.refluent.specs.Sets.{is_in, IsSubset}
use Rattle.refluent.specs.CommonTrees.{IsAmong, IsCommonTree}
use Rattle.refluent.specs.Drawn.{drawn_commands, nets_in_turn}
use Rattle.refluent.specs.FirstDisagreements.{log_at}
use Rattle.refluent.proofs.CallerLemmas.{at_from_in, in_from_at, is_in-append, is_in-canonical, is_in-filter, is_in-without_repeats}
use Rattle.transition.specs.Transitions.{transition}
use Rattle.transition.specs.Limits.{line_size, lines_size, IsWithinLogs}
use Rattle.transition.proofs.Nets.{one_each-net, drawn_net}
use Rattle.transition.proofs.TransitionLaws.{difference_by, transition_by, one_each-transition}
use Rattle.transition.proofs.Weights.{IsWeight, weigh, weigh_is, weigh-one, weigh-add, weigh-both, weigh-canonical, weight, weigh_members, nodes_weigh, nets_weigh, subset_weighs}

-- ---- two weights: one for each command, and the bytes of its line

one_weight : IsWeight (λ (c : Change). 1)
one_weight = record { joins = λ p first second third last. omega arith; back = λ c. refl }

size_is : (c : Change) → line_size c ≡ length (path_text c.node) + length (value_text c.old) + length (value_text c.new) + 3
size_is c = fields (path_text c.node) (value_text c.old) (value_text c.new)
  where
    fields : (path old new : List ℕ) → length (path ++ 32 ∷ old ++ 32 ∷ new) + 1 ≡ length path + length old + length new + 3
    fields path old new = simp length-append (omega arith)

size_weight : IsWeight line_size
size_weight = record {
  joins = λ p first second third last.
      let a = size_is (record { node = p; old = first; new = last }) in
      let b = size_is (record { node = p; old = first; new = second }) in
      let d = size_is (record { node = p; old = third; new = last }) in
      omega arith;
  back = λ c. let a = size_is c in let b = size_is (inverse c) in omega arith;
}

-- ---- drawn sets

-- the set does not have the command
abbrev new_in : List Change → Change → Bool
new_in ns c = not (is_in ns c)

module _ (f : Change → ℕ) (weights : IsWeight f) (logs : List (List Change)) where
  in_turn_of : (cs : List Change) → IsSubset cs (drawn_commands logs) → IsSubset cs (nets_in_turn logs)
  in_turn_of cs part c e = sym (is_in-without_repeats (nets_in_turn logs) c) ∙ part c e

  drawn_weighs : (cs : List Change) → one_each cs ≡ true → IsSubset cs (drawn_commands logs) → weigh f cs ≤ weigh (weigh f) logs
  drawn_weighs cs one part = omega (arith, subset_weighs f cs (nets_in_turn logs) one (in_turn_of cs part), nets_weigh f weights logs)

  -- a drawn set, with the commands of another that it does not have
  together_weigh : (ns ms : List Change) → one_each ns ≡ true → one_each ms ≡ true → IsSubset ns (drawn_commands logs) → IsSubset ms (drawn_commands logs) →
      weigh f ns + weigh f (filter (new_in ns) ms) ≤ weigh (weigh f) logs
  together_weigh ns ms first second part other =
      let all = nets_in_turn logs in
      let own = subset_weighs f ns (filter (is_in ns) all) first (λ c e. is_in-filter (is_in ns) all c ∙ two (is_in all c) (is_in ns c) (in_turn_of ns part c e) e) in
      let rest = subset_weighs f (filter (new_in ns) ms) (filter (new_in ns) all) (one_each-filter (new_in ns) ms second)
      (λ c e. let h = both (is_in ms c) (new_in ns c) (sym (is_in-filter (new_in ns) ms c) ∙ e) in is_in-filter (new_in ns) all c ∙ two (is_in all c) (new_in ns c) (in_turn_of ms other c h.0) h.1) in
      omega (arith, weigh-both f (is_in ns) all, nets_weigh f weights logs)
    where
      two : (a b : Bool) → a ≡ true → b ≡ true → (a && b) ≡ true
      two a b e g = grind arith

-- ---- transitions

-- from the result of one set to that of another, where both hold the old values of their commands
module _ (f : Change → ℕ) (weights : IsWeight f) (t : Node → Value) (ns ms : List Change) (first : one_each ns ≡ true) (second : one_each ms ≡ true)
    (held : (p : Node) (d : Change) → command_at ms p ≡ Some d → t p ≡ d.old) (own : (p : Node) (d : Change) → command_at ns p ≡ Some d → t p ≡ d.old) where
  fresh_weight : (p : Node) (d : Change) → command_at ms p ≡ Some d → (command_at ns p ≡ Some d → ⊥) → weight f (command_at (filter (new_in ns) ms) p) ≡ f d
  fresh_weight p d e none =
      ap (weight f) (command_at-filter (new_in ns) ms second p ∙ ap (passing (new_in ns)) e) ∙ go (is_in ns d) (λ h. none (ap (command_at ns) (command_at-node ms p d e) ∙ at_from_in ns first d h))
    where
      go : (b : Bool) → (b ≡ true → ⊥) → weight f (if not b then Some d else None) ≡ f d
      go true absent = absurd (absent refl)
      go false absent = refl

  command_weighs : (p : Node) (c : Change) → difference_by t p (command_at ns p) (command_at ms p) ≡ Some c → f c ≤ weight f (command_at ns p) + weight f (command_at (filter (new_in ns) ms) p)
  command_weighs p c e = go (command_at ns p) (command_at ms p) refl refl e
    where
      made : (b : Bool) (v w : Value) → (if b then Some (record { node = p; old = v; new = w }) else None) ≡ Some c → (b ≡ true) × (◌≡◌ {A = Change} (record { node = p; old = v; new = w }) c)
      made true v w g = (refl, cc)
      made false v w g = cc (g)

      go : (o r : Option Change) → command_at ns p ≡ o → command_at ms p ≡ r → difference_by t p o r ≡ Some c → f c ≤ weight f o + weight f (command_at (filter (new_in ns) ms) p)
      go None None one other g = cc (g)
      go None (Some d) one other g =
          let h = made (not (same_value (t p) d.new)) (t p) d.new g in
          let same : ◌≡◌ {A = Change} c d = sym h.1 ∙ (λ i. record { node = command_at-node ms p d other i; old = held p d other i; new = d.new }) in
          let k = fresh_weight p d other (λ there. let x = sym one ∙ there in cc (x)) in
          let l = ap f same in
          omega arith
      go (Some d) None one other g =
          let h = made (not (same_value d.new (t p))) d.new (t p) g in
          let same : ◌≡◌ {A = Change} c (inverse d) = sym h.1 ∙ (λ i. record { node = command_at-node ns p d one i; old = d.new; new = own p d one i }) in
          let l = ap f same ∙ weights.back d in
          omega arith
      go (Some d) (Some d') one other g =
          let h = made (not (same_value d.new d'.new)) d.new d'.new g in
          let k = fresh_weight p d' other (λ there. apart d d' h.0 (some_is d d' (sym one ∙ there))) in
          let l = weights.joins p d.new (t p) (t p) d'.new in
          let back = weights.back (record { node = p; old = t p; new = d.new }) in
          let a = ap f (λ i. record { node = command_at-node ns p d one i; old = own p d one i; new = d.new }) in
          let b = ap f (λ i. record { node = command_at-node ms p d' other i; old = held p d' other i; new = d'.new }) in
          let l' = ap f h.1 in
          omega arith
        where
          some_is : (x y : Change) → Some x ≡ Some y → x ≡ y
          some_is x y h = cc

          apart : (x y : Change) → not (same_value x.new y.new) ≡ true → x ≡ y → ⊥
          apart x y differ same = let h : true ≡ false = sym differ ∙ ap (λ (z : Change). not (same_value x.new z.new)) (sym same) ∙ ap not (same_value_refl x.new) in cc (h)

  transition_weighs : weigh f (transition t ns ms) ≤ weigh f ns + weigh f (filter (new_in ns) ms)
  transition_weighs =
      let cs = transition t ns ms in
      let one = one_each-transition t ns ms in
      let each = weigh_members f f (λ c. weight f (command_at ns c.node) + weight f (command_at (filter (new_in ns) ms) c.node)) cs
      (λ c e. command_weighs c.node c (sym (transition_by t ns ms c.node) ∙ at_from_in cs one c e)) in
      let both_of = weigh-add (λ c. weight f (command_at ns c.node)) (λ c. weight f (command_at (filter (new_in ns) ms) c.node)) cs in
      omega (arith, nodes_weigh f cs ns one, nodes_weigh f cs (filter (new_in ns) ms) one)

-- ---- within the logs

pub length-canonical : (cs : List Change) → length (canonical cs) ≡ length cs
length-canonical cs = sym (weigh-one (canonical cs)) ∙ weigh-canonical (λ c. 1) cs ∙ weigh-one cs

pub lines-canonical : (cs : List Change) → lines_size (canonical cs) ≡ lines_size cs
lines-canonical cs = sym (weigh_is line_size (canonical cs)) ∙ weigh-canonical line_size cs ∙ weigh_is line_size cs

module _ (logs : List (List Change)) where
  within_by : (cs : List Change) → ((f : Change → ℕ) → IsWeight f → weigh f cs ≤ weigh (weigh f) logs) → IsWithinLogs logs cs
  within_by cs weighs = record {
    commands = subst (λ n. n ≤ sum_by (λ log. length log) logs) (weigh-one cs)
        (subst (λ n. weigh (λ (c : Change). 1) cs ≤ n) (ap (λ g. weigh g logs) (fun_ext weigh-one) ∙ weigh_is (λ log. length log) logs) (weighs (λ c. 1) one_weight));
    bytes = subst (λ n. n ≤ sum_by lines_size logs) (weigh_is line_size cs)
        (subst (λ n. weigh line_size cs ≤ n) (ap (λ g. weigh g logs) (fun_ext (weigh_is line_size)) ∙ weigh_is lines_size logs) (weighs line_size size_weight));
  }

  pub drawn_within : (cs : List Change) → one_each cs ≡ true → IsSubset cs (drawn_commands logs) → IsWithinLogs logs cs
  drawn_within cs one part = within_by cs (λ f weights. drawn_weighs f weights logs cs one part)

  -- the admissible order changes nothing of it
  pub canonical_within : (cs : List Change) → IsWithinLogs logs cs → IsWithinLogs logs (canonical cs)
  canonical_within cs within = record {
    commands = subst (λ n. n ≤ sum_by (λ log. length log) logs) (sym (length-canonical cs)) within.commands;
    bytes = subst (λ n. n ≤ sum_by lines_size logs) (sym (lines-canonical cs)) within.bytes;
  }

  module _ (m : Store) (common : IsCommonTree m logs) where
    -- common trees hold the old values of drawn commands
    held : (cs : List Change) → IsSubset cs (drawn_commands logs) → (p : Node) (d : Change) → command_at cs p ≡ Some d → at m p ≡ d.old
    held cs part p d e =
        let of = drawn_net logs d (part d (in_from_at cs p d e)) in
        let fits = (net_fits (at m) of.log common.tree.tree (common.takes of.log of.among)).0 in
        ap (at m) (command_at-node cs p d e) ∙ fits.olds d.node d (at_from_in (net of.log) fits.one d of.is)

    -- from the result of one drawn set to that of another
    between_within : (ns ms : List Change) → one_each ns ≡ true → one_each ms ≡ true → IsSubset ns (drawn_commands logs) → IsSubset ms (drawn_commands logs) →
        IsWithinLogs logs (transition (at m) ns ms)
    between_within ns ms first second part other = within_by (transition (at m) ns ms)
        (λ f weights. let made = transition_weighs f weights (at m) ns ms first second (held ms other) (held ns part) in
        let all = together_weigh f weights logs ns ms first second part other in omega arith)

-- the net set of a log is drawn, by the log and by its number; past the last there is none
at_prefix : (log : List Change) (logs : List (List Change)) → IsSubset (net log) (nets_in_turn (log ∷ logs))
at_prefix log logs c e = is_in-append (canonical (net log)) (nets_in_turn logs) c ∙ ap (λ b. b || is_in (nets_in_turn logs) c) (is_in-canonical (net log) (one_each-net log) c ∙ e)

further : (log : List Change) (logs : List (List Change)) (cs : List Change) → IsSubset cs (nets_in_turn logs) → IsSubset cs (nets_in_turn (log ∷ logs))
further log logs cs part c e = is_in-append (canonical (net log)) (nets_in_turn logs) c ∙ later (is_in (canonical (net log)) c) (is_in (nets_in_turn logs) c) (part c e)
  where
    later : (a b : Bool) → b ≡ true → (a || b) ≡ true
    later true b e = refl
    later false b e = e

in_turn_among : (log : List Change) (logs : List (List Change)) → IsAmong log logs → IsSubset (net log) (nets_in_turn logs)
in_turn_among log [] among = absurd among
in_turn_among log (first ∷ logs) (inl same) = subst (λ l. IsSubset (net l) (nets_in_turn (first ∷ logs))) (sym same) (at_prefix first logs)
in_turn_among log (first ∷ logs) (inr among) = further first logs (net log) (in_turn_among log logs among)

in_turn_numbered : (logs : List (List Change)) (i : ℕ) → IsSubset (net (log_at logs i)) (nets_in_turn logs)
in_turn_numbered [] i = λ c e. e
in_turn_numbered (log ∷ logs) zero = at_prefix log logs
in_turn_numbered (log ∷ logs) (suc i) = further log logs (net (log_at logs i)) (in_turn_numbered logs i)

drawn_by : (logs : List (List Change)) (cs : List Change) → IsSubset cs (nets_in_turn logs) → IsSubset cs (drawn_commands logs)
drawn_by logs cs part c e = is_in-without_repeats (nets_in_turn logs) c ∙ part c e

module _ (logs : List (List Change)) (m : Store) (common : IsCommonTree m logs) where
  pub transition_within : (log : List Change) → IsAmong log logs → (ms : List Change) → one_each ms ≡ true → IsSubset ms (drawn_commands logs) → IsWithinLogs logs (transition (at m) (net log) ms)
  transition_within log among ms one part = between_within logs m common (net log) ms (one_each-net log) one (drawn_by logs (net log) (in_turn_among log logs among)) part

  -- the same of a log by its number, counted from 0, in the admissible order
  pub numbered_within : (i : ℕ) (ms set : List Change) → one_each ms ≡ true → IsSubset ms (drawn_commands logs) → set ≡ canonical (transition (at m) (net (log_at logs i)) ms) → IsWithinLogs logs set
  numbered_within i ms set one part is = subst (IsWithinLogs logs) (sym is) (canonical_within logs (transition (at m) (net (log_at logs i)) ms)
      (between_within logs m common (net (log_at logs i)) ms (one_each-net (log_at logs i)) one (drawn_by logs (net (log_at logs i)) (in_turn_numbered logs i)) part))
