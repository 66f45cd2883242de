-- The laws of a round over a list of trees.
use Rattle.std.proofs.Common.{◌≡◌, ◌↔◌, ◌<◌, ℕ, zero, suc, length, get_or, Option, Some, None, ◌+◌, Bool, true, false, not, ◌&&◌, ◌||◌, List, [], ◌∷◌, refl, sym, ap, subst, ◌∙◌, arith, inl, inr, map}
use mathlib.Core.Path.{fun_ext}
use Rattle.std.specs.Prelude.{if◌then◌else◌, is_some}
use Rattle.std.specs.List.{list_all}
use Rattle.sync_path.specs.Paths.{Node, same_path}
use Rattle.sync_path.proofs.CallerLemmas.{both, same_path_is}
use Rattle.sync_command.specs.Values.{same_value}
use Rattle.sync_command.specs.Changes.{Change, goes_before, is_change}
use Rattle.sync_command.specs.Trees.{Holding, command_at, new_or, after, one_each, result_of, Fits}
use Rattle.sync_command.specs.Maps.{Store, at}
use Rattle.sync_command.proofs.CallerLemmas.{same_fits, same_value_is}
use Rattle.canon_set.specs.Logs.{all_change, net}
use Rattle.canon_set.specs.Sets.{canonical, put_in}
use Rattle.canon_set.proofs.CallerLemmas.{command_at-canonical, net_fits, one_each-canonical}
use Rattle.refluent.specs.Sets.{IsSubset}
use Rattle.refluent.specs.CommonTrees.{IsAmong, AllChange, IsCommonTree, least_common_tree}
use Rattle.refluent.specs.Drawn.{drawn_commands}
use Rattle.refluent.proofs.CallerLemmas.{least_law}
use Rattle.transition.specs.Transitions.{change_between, differences, transition}
use Rattle.transition.proofs.CallerLemmas.{law_of_each_tree, one_each-transition, transition_fits}
use Rattle.resume_apply.specs.Ready.{changes_kind, IsReady, work_units, work_at, work}
use Rattle.sync_round.specs.Rounds.{AreReady, targets, round_work, transitions, IsReadyRound, results, IsTreeStep, IsRoundStep}
use Rattle.resume_apply.proofs.CallerLemmas.{fits_ready, step_law}

-- ---- the results of the logs

-- the transition of one log, in the admissible order
abbrev pub one_transition : Holding → List Change → List Change → List Change
one_transition t log ms = canonical (transition t (net log) ms)

after_canonical : (cs : List Change) (t : Holding) → one_each cs ≡ true → after (canonical cs) t ≡ after cs t
after_canonical cs t one = fun_ext (λ p. ap (λ o. new_or o (t p)) (command_at-canonical cs one p))

-- what it fits, and where it leads
transition_leads : (u : Holding) (log ms : List Change) → Fits u ms →
    Fits (after (net log) u) (one_transition u log ms) × (after (one_transition u log ms) (after (net log) u) ≡ after ms u)
transition_leads u log ms fits =
    let leads = transition_fits u (net log) ms fits in
    let one = one_each-transition u (net log) ms in
    let cs : List Change = transition u (net log) ms in (
      same_fits (after (net log) u) cs (canonical cs) (one_each-canonical cs one) (λ p. sym (command_at-canonical cs one p)) leads.0,
      after_canonical cs (after (net log) u) one ∙ leads.1,
    )

results_ready : (t u : Holding) (ms : List Change) → Fits u ms → (logs : List (List Change)) →
    ((log : List Change) → IsAmong log logs → (result_of u log ≡ after (net log) u) × (one_transition t log ms ≡ one_transition u log ms)) →
    AreReady (transitions t logs ms) (results u logs) × (targets (transitions t logs ms) (results u logs) ≡ map {B = Holding} (λ log. after ms u) logs)
results_ready t u ms fits [] known = (tt, refl)
results_ready t u ms fits (log ∷ logs) known =
    let rest = results_ready t u ms fits logs (λ l i. known l (inr i)) in
    let here = known log (inl refl) in
    let leads = transition_leads u log ms fits in
    let ready : IsReady (result_of u log) (one_transition t log ms) =
    subst (λ x. IsReady x (one_transition t log ms)) (sym here.0) (subst (λ cs. IsReady (after (net log) u) cs) (sym here.1) (fits_ready (after (net log) u) (one_transition u log ms) leads.0)) in
    let goal : after (one_transition t log ms) (result_of u log) ≡ after ms u =
    ap (after (one_transition t log ms)) here.0 ∙ ap (λ cs. after cs (after (net log) u)) here.1 ∙ leads.1 in
    ((ready, rest.0), λ i. goal i ∷ rest.1 i)

pub results_law : (logs : List (List Change)) → AllChange logs → (m : Store) → IsCommonTree m logs → (ms : List Change) → IsSubset ms (drawn_commands logs) → Fits (at m) ms →
    IsReadyRound logs ms (results (at m) logs) × (targets (transitions (least_common_tree logs) logs ms) (results (at m) logs) ≡ map {B = Holding} (λ log. after ms (at m)) logs)
results_law logs change m common ms part fits =
    let least = least_law logs change (record { map = m; common = common }) in
    results_ready (least_common_tree logs) (at m) ms fits logs
    (λ log i. (
      sym (fun_ext (net_fits (at m) log common.tree.tree (common.takes log i)).1),
      ap (λ t. one_transition t log ms) (sym least.1) ∙ ap canonical (law_of_each_tree logs change least.0 m least.2 common log i ms part),
    ))

-- the transitions of logs that have one transition each
one_lists : (t u : Holding) (ms : List Change) (logs : List (List Change)) → ((log : List Change) → IsAmong log logs → one_transition t log ms ≡ one_transition u log ms) → transitions t logs ms ≡ transitions u logs ms
one_lists t u ms [] known = refl
one_lists t u ms (log ∷ logs) known =
    let rest = one_lists t u ms logs (λ l i. known l (inr i)) in
    let here = known log (inl refl) in
    λ i. here i ∷ rest i

pub each_tree_law : (logs : List (List Change)) → AllChange logs → (m n : Store) → IsCommonTree m logs → IsCommonTree n logs → (ms : List Change) → IsSubset ms (drawn_commands logs) → transitions (at m) logs ms ≡ transitions (at n) logs ms
each_tree_law logs change m n first second ms part =
    one_lists (at m) (at n) ms logs (λ log i. ap canonical (law_of_each_tree logs change m n first second log i ms part))

-- ---- a step of one tree

tree_step : (set : List Change) (t u : Holding) → one_each set ≡ true → all_change set ≡ true → IsReady t set → IsTreeStep set t u →
    IsReady u set × (after set u ≡ after set t) × (work set t ≡ work set u + 1)
tree_step set t u one change ready s = step_law t u set one change ready s.node s.command s.there s.elsewhere s.moves s.step

pub round_step : (sets : List (List Change)) → list_all one_each sets ≡ true → list_all all_change sets ≡ true → (trees others : List Holding) →
    AreReady sets trees → IsRoundStep sets trees others →
    AreReady sets others × (targets sets others ≡ targets sets trees) × (round_work sets trees ≡ round_work sets others + 1)
round_step [] one change trees others ready step = absurd step
round_step (set ∷ sets) one change [] others ready step = absurd step
round_step (set ∷ sets) one change (t ∷ trees) [] ready step = absurd step
round_step (set ∷ sets) one change (t ∷ trees) (u ∷ others) ready (inl s) =
    let ones = both (one_each set) (list_all one_each sets) one in
    let changes = both (all_change set) (list_all all_change sets) change in
    let here = tree_step set t u ones.0 changes.0 ready.0 s.0 in
    let units : work set t ≡ work set u + 1 = here.2 in
    let same : round_work sets trees ≡ round_work sets others = ap (round_work sets) s.1 in
    ((here.0, subst (AreReady sets) s.1 ready.1), λ i. here.1 i ∷ targets sets (sym s.1 i), omega arith)
round_step (set ∷ sets) one change (t ∷ trees) (u ∷ others) ready (inr s) =
    let ones = both (one_each set) (list_all one_each sets) one in
    let changes = both (all_change set) (list_all all_change sets) change in
    let rest = round_step sets ones.1 changes.1 trees others ready.1 s.1 in
    let units : round_work sets trees ≡ round_work sets others + 1 = rest.2 in
    let same : work set t ≡ work set u = ap (work set) s.0 in
    ((subst (λ x. IsReady x set) s.0 ready.0, rest.0), λ i. after set (sym s.0 i) ∷ rest.1 i, omega arith)

-- ---- transitions are sets

change_differences : (u v : Holding) (ps : List Node) → all_change (differences u v ps) ≡ true
change_differences u v [] = refl
change_differences u v (q ∷ ps) = go (same_value (u q) (v q)) refl (is_some (command_at (differences u v ps) q)) (change_differences u v ps)
  where
    go : (a : Bool) → same_value (u q) (v q) ≡ a → (b : Bool) → all_change (differences u v ps) ≡ true → all_change (if a || b then differences u v ps else change_between u v q ∷ differences u v ps) ≡ true
    go true e b ih = ih
    go false e true ih = ih
    go false e false ih = ap (λ x. not x && all_change (differences u v ps)) e ∙ ih

change_put_in : (c : Change) (cs : List Change) → all_change (put_in c cs) ≡ (is_change c && all_change cs)
change_put_in c [] = refl
change_put_in c (d ∷ ds) = go (goes_before c d) (change_put_in c ds)
  where
    swap : (a b e x : Bool) → x ≡ (a && e) → (b && x) ≡ (a && (b && e))
    swap a b e x h = grind arith

    go : (b : Bool) → all_change (put_in c ds) ≡ (is_change c && all_change ds) →
        all_change (if b then c ∷ (d ∷ ds) else d ∷ put_in c ds) ≡ (is_change c && (is_change d && all_change ds))
    go true ih = refl
    go false ih = swap (is_change c) (is_change d) (all_change ds) (all_change (put_in c ds)) ih

change_canonical : (cs : List Change) → all_change cs ≡ true → all_change (canonical cs) ≡ true
change_canonical [] change = refl
change_canonical (c ∷ cs) change =
    let parts = both (is_change c) (all_change cs) change in
    change_put_in c (canonical cs) ∙ ap (λ b. is_change c && b) (change_canonical cs parts.1) ∙ ap (λ b. b && true) parts.0

pub one_transitions : (t : Holding) (logs : List (List Change)) (ms : List Change) → list_all one_each (transitions t logs ms) ≡ true
one_transitions t [] ms = refl
one_transitions t (log ∷ logs) ms =
    let cs : List Change = transition t (net log) ms in
    ap (λ b. b && list_all one_each (transitions t logs ms)) (one_each-canonical cs (one_each-transition t (net log) ms)) ∙ one_transitions t logs ms

pub change_transitions : (t : Holding) (logs : List (List Change)) (ms : List Change) → list_all all_change (transitions t logs ms) ≡ true
change_transitions t [] ms = refl
change_transitions t (log ∷ logs) ms =
    let cs : List Change = transition t (net log) ms in
    ap (λ b. b && list_all all_change (transitions t logs ms)) (change_canonical cs (change_differences (after (net log) t) (after ms t) _)) ∙ change_transitions t logs ms

-- ---- where no work is left

none_of : (m n : ℕ) → m + n ≡ 0 → (m ≡ 0) × (n ≡ 0)
none_of m n e = (omega arith, omega arith)

-- a tree on which no work is left holds all the new values
held_all : (cs : List Change) (t : Holding) → work cs t ≡ 0 → (p : Node) (c : Change) → command_at cs p ≡ Some c → t p ≡ c.new
held_all [] t e p c at = cc (at)
held_all (d ∷ cs) t e p c at = let parts = none_of (work_at d (t d.node)) (work cs t) e in go (same_path p d.node) (same_path_is p d.node) (held_all cs t parts.1 p c) (same_value_is (t d.node) d.new (done parts.0)) at
  where
    done : work_at d (t d.node) ≡ 0 → same_value (t d.node) d.new ≡ true
    done e = units (same_value (t d.node) d.new) (same_value (t d.node) d.old) (changes_kind d) e
      where
        units : (a b s : Bool) → work_units a b s ≡ 0 → a ≡ true
        units a b s e = grind arith

    go : (b : Bool) → (b ≡ true → p ≡ d.node) → (command_at cs p ≡ Some c → t p ≡ c.new) → t d.node ≡ d.new → (if b then Some d else command_at cs p) ≡ Some c → t p ≡ c.new
    go true is ih held e = ap t (is refl) ∙ held ∙ ap (λ x. x.new) (some_is e)
      where
        some_is : Some d ≡ Some c → d ≡ c
        some_is e = cc
    go false is ih held e = ih e

at_target : (cs : List Change) (t : Holding) → work cs t ≡ 0 → after cs t ≡ t
at_target cs t e = fun_ext (λ p. go p (command_at cs p) (held_all cs t e p))
  where
    go : (p : Node) (o : Option Change) → ((c : Change) → o ≡ Some c → t p ≡ c.new) → new_or o (t p) ≡ t p
    go p None held = refl
    go p (Some c) held = sym (held c refl)

pub done_law : (sets : List (List Change)) (trees : List Holding) → AreReady sets trees → round_work sets trees ≡ 0 → targets sets trees ≡ trees
done_law [] [] ready e = refl
done_law [] (t ∷ trees) ready e = absurd ready
done_law (set ∷ sets) [] ready e = absurd ready
done_law (set ∷ sets) (t ∷ trees) ready e =
    let parts = none_of (work set t) (round_work sets trees) e in
    let rest = done_law sets trees ready.1 parts.1 in
    λ i. at_target set t parts.0 i ∷ rest i

-- ---- number by number

by_number : (sets : List (List Change)) (trees : List Holding) (d : Holding) → AreReady sets trees → (length sets ≡ length trees) × ((k : ℕ) → k < length sets → IsReady (get_or trees k d) (get_or sets k []))
by_number [] [] d ready = (refl, λ k low. absurd (omega arith))
by_number [] (t ∷ trees) d ready = absurd ready
by_number (set ∷ sets) [] d ready = absurd ready
by_number (set ∷ sets) (t ∷ trees) d ready = let rest = by_number sets trees d ready.1 in (ap suc rest.0, each (rest.1))
  where
    each : ((k : ℕ) → k < length sets → IsReady (get_or trees k d) (get_or sets k [])) → (k : ℕ) → k < length (set ∷ sets) → IsReady (get_or (t ∷ trees) k d) (get_or (set ∷ sets) k [])
    each rest zero low = ready.0
    each rest (suc k) low = rest k (omega arith)

from_numbers : (sets : List (List Change)) (trees : List Holding) (d : Holding) → length sets ≡ length trees → ((k : ℕ) → k < length sets → IsReady (get_or trees k d) (get_or sets k [])) → AreReady sets trees
from_numbers [] [] d many each = tt
from_numbers [] (t ∷ trees) d many each = absurd (omega arith)
from_numbers (set ∷ sets) [] d many each = absurd (omega arith)
from_numbers (set ∷ sets) (t ∷ trees) d many each = (each zero (omega arith), from_numbers sets trees d (omega arith) (λ k low. each (suc k) (omega arith)))

pub number_law : (sets : List (List Change)) (trees : List Holding) (d : Holding) → AreReady sets trees ↔ ((length sets ≡ length trees) × ((k : ℕ) → k < length sets → IsReady (get_or trees k d) (get_or sets k [])))
number_law sets trees d = (by_number sets trees d, λ h. from_numbers sets trees d h.0 h.1)

pub target_law : (sets : List (List Change)) (trees : List Holding) (d : Holding) → length sets ≡ length trees → (k : ℕ) → k < length sets → get_or (targets sets trees) k d ≡ after (get_or sets k []) (get_or trees k d)
target_law [] trees d many k low = absurd (omega arith)
target_law (set ∷ sets) [] d many k low = absurd (omega arith)
target_law (set ∷ sets) (t ∷ trees) d many zero low = refl
target_law (set ∷ sets) (t ∷ trees) d many (suc k) low = target_law sets trees d (omega arith) k (omega arith)

pub outside_law : (t u : Holding) (cs : List Change) → after cs u ≡ after cs t → (p : Node) → command_at cs p ≡ None → u p ≡ t p
outside_law t u cs same p none = sym (ap (λ o. new_or o (u p)) none) ∙ ap (λ x. x p) same ∙ ap (λ o. new_or o (t p)) none
