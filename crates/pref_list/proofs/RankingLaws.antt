-- What rules name is drawn, and the ranking has each drawn command once.
use Rattle.std.proofs.Common.{◌≡◌, ℕ, zero, suc, Bool, true, false, ◌||◌, List, [], ◌∷◌, ◌++◌, refl, sym, ap, subst, ◌∙◌, arith, ◌⊎◌, inl, inr}
use Rattle.sync_command.specs.Changes.{Change}
use Rattle.canon_set.specs.Logs.{net}
use Rattle.canon_set.specs.Sets.{canonical}
use Rattle.sync_path.proofs.CallerLemmas.{both}
use Rattle.refluent.proofs.CallerLemmas.{all_differ-without_repeats, is_in-append, is_in-filter, is_in-without_repeats}
use Rattle.refluent.specs.Sets.{is_in, IsSubset, all_differ, without_repeats}
use Rattle.refluent.specs.Joints.{net_sets}
use Rattle.refluent.specs.Drawn.{in_turn, nets_in_turn, drawn_commands}
use Rattle.pref_list.specs.declared.rules.Rule.{Rule}
use Rattle.pref_list.specs.declared.rules.Rule.TheVariants.{At, Under, All}
use Rattle.pref_list.specs.Ranking.{set_from, set_of, is_at, is_at_or_under, expansion, expansions, ranked, ranking}

cases_or : (a b : Bool) → (a || b) ≡ true → (a ≡ true) ⊎ (b ≡ true)
cases_or true b e = inl refl
cases_or false b e = inr e

left : (a b : Bool) → a ≡ true → (a || b) ≡ true
left a b e = grind arith

right : (a b : Bool) → b ≡ true → (a || b) ≡ true
right a b e = grind arith

-- ---- what rules name

pub in_turn-nets : (logs : List (List Change)) → in_turn (net_sets logs) ≡ nets_in_turn logs
in_turn-nets [] = refl
in_turn-nets (log ∷ logs) = ap (λ l. canonical (net log) ++ l) (in_turn-nets logs)

from_set : (sets : List (List Change)) (k : ℕ) (c : Change) → is_in (set_from sets k) c ≡ true → is_in (in_turn sets) c ≡ true
from_set [] k c e = cc (e)
from_set (set ∷ sets) zero c e = is_in-append set (in_turn sets) c ∙ left (is_in set c) (is_in (in_turn sets) c) e
from_set (set ∷ sets) (suc k) c e = is_in-append set (in_turn sets) c ∙ right (is_in set c) (is_in (in_turn sets) c) (from_set sets k c e)

pub from_log : (sets : List (List Change)) (k : ℕ) (c : Change) → is_in (set_of sets k) c ≡ true → is_in (in_turn sets) c ≡ true
from_log sets zero c e = cc (e)
from_log sets (suc k) c e = from_set sets k c e

from_rule : (sets : List (List Change)) (rule : Rule) (c : Change) → is_in (expansion sets rule) c ≡ true → is_in (in_turn sets) c ≡ true
from_rule sets (At k p) c e = from_log sets k c (both (is_in (set_of sets k) c) (is_at p c) (sym (is_in-filter (is_at p) (set_of sets k) c) ∙ e)).0
from_rule sets (Under k p) c e = from_log sets k c (both (is_in (set_of sets k) c) (is_at_or_under p c) (sym (is_in-filter (is_at_or_under p) (set_of sets k) c) ∙ e)).0
from_rule sets (All k) c e = from_log sets k c e

from_rules : (sets : List (List Change)) (rules : List Rule) (c : Change) → is_in (expansions sets rules) c ≡ true → is_in (in_turn sets) c ≡ true
from_rules sets [] c e = cc (e)
from_rules sets (rule ∷ rules) c e = go (from_rules sets rules c) (cases_or (is_in (expansion sets rule) c) (is_in (expansions sets rules) c) (sym (is_in-append (expansion sets rule) (expansions sets rules) c) ∙ e))
  where
    go : (is_in (expansions sets rules) c ≡ true → is_in (in_turn sets) c ≡ true) → (is_in (expansion sets rule) c ≡ true) ⊎ (is_in (expansions sets rules) c ≡ true) → is_in (in_turn sets) c ≡ true
    go ih (inl h) = from_rule sets rule c h
    go ih (inr h) = ih h

-- ---- the ranking

drawn_is : (logs : List (List Change)) → drawn_commands logs ≡ without_repeats (in_turn (net_sets logs))
drawn_is logs = ap without_repeats (sym (in_turn-nets logs))

ranked_in : (sets : List (List Change)) (rules : List Rule) → IsSubset (ranked sets rules) (without_repeats (in_turn sets))
ranked_in sets rules c e = go (cases_or (is_in (expansions sets rules) c) (is_in (in_turn sets) c) (sym (is_in-append (expansions sets rules) (in_turn sets) c) ∙ sym (is_in-without_repeats (expansions sets rules ++ in_turn sets) c) ∙ e))
  where
    go : (is_in (expansions sets rules) c ≡ true) ⊎ (is_in (in_turn sets) c ≡ true) → is_in (without_repeats (in_turn sets)) c ≡ true
    go (inl h) = is_in-without_repeats (in_turn sets) c ∙ from_rules sets rules c h
    go (inr h) = is_in-without_repeats (in_turn sets) c ∙ h

pub in_ranked : (sets : List (List Change)) (rules : List Rule) → IsSubset (without_repeats (in_turn sets)) (ranked sets rules)
in_ranked sets rules c e =
    is_in-without_repeats (expansions sets rules ++ in_turn sets) c ∙ is_in-append (expansions sets rules) (in_turn sets) c
    ∙ right (is_in (expansions sets rules) c) (is_in (in_turn sets) c) (sym (is_in-without_repeats (in_turn sets) c) ∙ e)

pub ranking_drawn : (logs : List (List Change)) (rules : List Rule) → IsSubset (ranking logs rules) (drawn_commands logs)
ranking_drawn logs rules = subst (λ l. IsSubset (ranking logs rules) l) (sym (drawn_is logs)) (ranked_in (net_sets logs) rules)

pub drawn_ranked : (logs : List (List Change)) (rules : List Rule) → IsSubset (drawn_commands logs) (ranking logs rules)
drawn_ranked logs rules = subst (λ l. IsSubset l (ranking logs rules)) (sym (drawn_is logs)) (in_ranked (net_sets logs) rules)

pub ranked_once : (logs : List (List Change)) (rules : List Rule) → all_differ (ranking logs rules) ≡ true
ranked_once logs rules = all_differ-without_repeats (expansions (net_sets logs) rules ++ in_turn (net_sets logs))
