-- The rules that steer, one by one.
use Rattle.std.proofs.Common.{◌≡◌, ℕ, ◌+◌, ◌<◌, true, List, [], ◌∷◌, ◌++◌, length, get_or, take, Option, Some, None, IsSome, refl, sym, ap, ◌∙◌}
use Rattle.std.proofs.lemmas.List.{map-append, take_more}
use Rattle.std.proofs.lemmas.Option.{slice_get-get_or}
use Rattle.sync_path.specs.Paths.{Node}
use Rattle.sync_command.specs.Changes.{Change, is_canonical}
use Rattle.sync_command.specs.Trees.{one_each}
use Rattle.sync_command.proofs.CallerLemmas.{canonical_unique}
use Rattle.canon_set.specs.Sets.{canonical}
use Rattle.canon_set.proofs.CallerLemmas.{command_at-canonical, one_each-canonical, is_canonical-canonical}
use Rattle.refluent.specs.Sets.{is_in, IsSubset}
use Rattle.refluent.specs.Drawn.{in_turn}
use Rattle.refluent.specs.Joints.{Joined, IsJoint, StandsForAll}
use Rattle.refluent.proofs.CallerLemmas.{least_law}
use Rattle.pref_list.specs.declared.rules.Rule.{Rule}
use Rattle.pref_list.specs.declared.rules.Rule.TheVariants.{At}
use Rattle.pref_list.specs.Picks.{log_of}
use Rattle.pref_list.proofs.CallerLemmas.{in_from_place}
use Rattle.merge_core.specs.Steering.{at_rule, at_rules, AreSteeringRules}
use Rattle.merge_core.specs.Afterwards.{IsLeastLog}
use Rattle.merge_core.specs.Verdicts.{IsVerdictOf}
use Rattle.merge_core.specs.declared.checking.Verdict.TheVariants.{Merger}
use Rattle.merge_core.proofs.DrawnNodes.{drawn_in_turn}

pub has_log : (sets : List (List Change)) (cs : List Change) (i : ℕ) (c : Change) (o : Option ℕ) → IsSubset cs (in_turn sets) → i < length cs → c ≡ get_or cs i c → IsLeastLog sets c o → IsSome o
has_log sets cs i c (Some log) part low is h = refl
has_log sets cs i c None part low is h = let e : is_in (in_turn sets) c ≡ true = part c (in_from_place cs i c (slice_get-get_or cs i c low ∙ ap Some (sym is))) in cc (e, h)

pub least_is : (sets : List (List Change)) (c : Change) (o : Option ℕ) (log : ℕ) → IsLeastLog sets c o → o ≡ Some log → log ≡ log_of sets c
least_is sets c None log h e = cc (e)
least_is sets c (Some k) log h e = sym (same e) ∙ h.1
  where
    same : Some k ≡ Some log → k ≡ log
    same e = cc

pub rule_more : (sets : List (List Change)) (cs : List Change) (i : ℕ) (c : Change) (rules all : List Rule) (log : ℕ) (path : Node) → rules ≡ at_rules sets (take i cs) → i < length cs → c ≡ get_or cs i c → log ≡ log_of sets c → path ≡ c.node → all ≡ rules ++ At log path ∷ []
    → all ≡ at_rules sets (take (i + 1) cs)
rule_more sets cs i c rules all log path so low is number node e =
    e ∙ (λ j. so j ++ At (number j) (node j) ∷ [])
    ∙ sym (ap (at_rules sets) (take_more cs i c low ∙ ap (λ x. take i cs ++ x ∷ []) (sym is)) ∙ map-append (at_rule sets) (take i cs) (c ∷ []))

-- a list in the admissible order is the canonical list of its commands
pub canonical_same : (cs : List Change) → is_canonical cs ≡ true → one_each cs ≡ true → cs ≡ canonical cs
canonical_same cs order one = canonical_unique cs (canonical cs) order (is_canonical-canonical cs one) one (one_each-canonical cs one) (λ p. sym (command_at-canonical cs one p))

pub merger_within : (j : Joined) → IsJoint j → (set cs : List Change) → cs ≡ set → IsVerdictOf j set Merger → IsSubset cs (in_turn j.sets)
merger_within j is set cs e verdict c h =
    let least = least_law is.logs is.stands.change is.stands.common in
    let merger = verdict is.logs is.stands least.0 least.2 in
    sym (drawn_in_turn j is.logs is.stands c) ∙ merger.within c (ap (λ l. is_in l c) (sym e) ∙ h)

pub steers : (j : Joined) (set cs : List Change) (rules : List Rule) → cs ≡ set → is_canonical set ≡ true → one_each set ≡ true → IsVerdictOf j set Merger → rules ≡ at_rules j.sets cs → (logs : List (List Change)) → StandsForAll j logs → AreSteeringRules logs set rules
steers j set cs rules e order one verdict is logs stands = record {
  merger = verdict logs stands;
  rules = is ∙ ap (at_rules j.sets) (e ∙ canonical_same set order one) ∙ ap (λ sets. at_rules sets (canonical set)) stands.sets;
}
