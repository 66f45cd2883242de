-- The laws of transitions.
use Rattle.std.proofs.Common.{◌≡◌, Bool, true, false, not, ◌&&◌, ◌||◌, List, [], ◌∷◌, ◌++◌, Option, Some, None, refl, sym, ap, ◌∙◌, arith, ◌⊎◌, inl, inr}
use mathlib.Core.Path.{fun_ext}
use Rattle.std.specs.Prelude.{if◌then◌else◌, is_some}
use Rattle.sync_path.specs.Paths.{Node, same_path}
use Rattle.sync_path.proofs.CallerLemmas.{lists, lists-append, same_path_refl}
use Rattle.sync_command.specs.Values.{same_value}
use Rattle.sync_command.specs.Changes.{Change}
use Rattle.sync_command.specs.Trees.{Holding, command_at, new_or, after, one_each, Fits}
use Rattle.sync_command.specs.Maps.{Store, at}
use Rattle.sync_command.proofs.CallerLemmas.{canonical_unique}
use Rattle.canon_set.specs.Logs.{names, net}
use Rattle.canon_set.specs.Sets.{canonical}
use Rattle.canon_set.proofs.CallerLemmas.{command_at-canonical, is_canonical-canonical, one_each-canonical}
use Rattle.refluent.specs.Sets.{IsSubset}
use Rattle.refluent.specs.CommonTrees.{IsAmong, AllChange, IsCommonTree}
use Rattle.refluent.specs.Drawn.{drawn_commands}
use Rattle.refluent.proofs.CallerLemmas.{common_holding, net_in, old_held}
use Rattle.transition.specs.Transitions.{nodes_of, change_between, differences, transition}
use Rattle.transition.proofs.Differences.{command_at-differences, one_each-differences, differences_fit}

lists-nodes : (cs : List Change) (p : Node) → lists (nodes_of cs) p ≡ names cs p
lists-nodes [] p = refl
lists-nodes (c ∷ cs) p = ap (λ b. same_path p c.node || b) (lists-nodes cs p)

pub named_at : (cs : List Change) (p : Node) → names cs p ≡ is_some (command_at cs p)
named_at [] p = refl
named_at (c ∷ cs) p = go (same_path p c.node) (named_at cs p)
  where
    go : (b : Bool) → names cs p ≡ is_some (command_at cs p) → (b || names cs p) ≡ is_some (if b then Some c else command_at cs p)
    go true ih = refl
    go false ih = ih

listed : (ns ms : List Change) (p : Node) → lists (nodes_of ns ++ nodes_of ms) p ≡ (names ns p || names ms p)
listed ns ms p = lists-append (nodes_of ns) (nodes_of ms) p ∙ (λ i. lists-nodes ns p i || lists-nodes ms p i)

-- the command at each node
pub transition_at : (t : Holding) (ns ms : List Change) (p : Node) →
    command_at (transition t ns ms) p ≡ if (names ns p || names ms p) && not (same_value (after ns t p) (after ms t p)) then Some (change_between (after ns t) (after ms t) p) else None
transition_at t ns ms p = command_at-differences (after ns t) (after ms t) (nodes_of ns ++ nodes_of ms) p
    ∙ ap (λ b. if b && not (same_value (after ns t p) (after ms t p)) then Some (change_between (after ns t) (after ms t) p) else None) (listed ns ms p)

-- sets with one command per node and the same at each have one canonical list
pub canonical_same : (cs ds : List Change) → one_each cs ≡ true → one_each ds ≡ true → ((p : Node) → command_at cs p ≡ command_at ds p) → canonical cs ≡ canonical ds
canonical_same cs ds first second same = canonical_unique (canonical cs) (canonical ds) (is_canonical-canonical cs first) (is_canonical-canonical ds second) (one_each-canonical cs first) (one_each-canonical ds second)
    (λ p. command_at-canonical cs first p ∙ same p ∙ sym (command_at-canonical ds second p))

-- what a transition has at a node, by the commands of the two sets there
abbrev pub difference_by : Holding → Node → Option Change → Option Change → Option Change
difference_by t p o r =
    if (is_some o || is_some r) && not (same_value (new_or o (t p)) (new_or r (t p))) then Some (record { node = p; old = new_or o (t p); new = new_or r (t p) }) else None

pub transition_by : (t : Holding) (ns ms : List Change) (p : Node) → command_at (transition t ns ms) p ≡ difference_by t p (command_at ns p) (command_at ms p)
transition_by t ns ms p = transition_at t ns ms p ∙ (λ i. if (named_at ns p i || named_at ms p i) && not (same_value (after ns t p) (after ms t p)) then Some (change_between (after ns t) (after ms t) p) else None)

pub one_each-transition : (t : Holding) (ns ms : List Change) → one_each (transition t ns ms) ≡ true
one_each-transition t ns ms = one_each-differences (after ns t) (after ms t) (nodes_of ns ++ nodes_of ms)

-- what it fits, and where it leads
pub transition_fits : (t : Holding) (ns ms : List Change) → Fits t ms →
    Fits (after ns t) (transition t ns ms) × (after (transition t ns ms) (after ns t) ≡ after ms t)
transition_fits t ns ms fits =
    let made = differences_fit (after ns t) (after ms t) (nodes_of ns ++ nodes_of ms) fits.tree outside in
    (made.0, fun_ext made.1)
  where
    neither : (a b : Bool) → (a || b) ≡ false → (a ≡ false) × (b ≡ false)
    neither a b e = grind arith

    unnamed : (cs : List Change) (p : Node) → names cs p ≡ false → after cs t p ≡ t p
    unnamed cs p e = go (command_at cs p) (sym (named_at cs p) ∙ e)
      where
        go : (o : Option Change) → is_some o ≡ false → new_or o (t p) ≡ t p
        go None e = refl
        go (Some c) e = cc (e)

    outside : (p : Node) → lists (nodes_of ns ++ nodes_of ms) p ≡ false → after ns t p ≡ after ms t p
    outside p e = let out = neither (names ns p) (names ms p) (sym (listed ns ms p) ∙ e) in unnamed ns p out.0 ∙ sym (unnamed ms p out.1)

-- differences look at the listed nodes only
same_differences : (u v w x : Holding) (ps : List Node) → ((p : Node) → lists ps p ≡ true → (u p ≡ w p) × (v p ≡ x p)) → differences u v ps ≡ differences w x ps
same_differences u v w x [] same = refl
same_differences u v w x (q ∷ ps) same = go (same_differences u v w x ps (λ p e. same p (later p e))) (same q own)
  where
    later : (p : Node) → lists ps p ≡ true → lists (q ∷ ps) p ≡ true
    later p e = grind (arith, e)

    own : lists (q ∷ ps) q ≡ true
    own = ap (λ b. b || lists ps q) (same_path_refl q)

    go : differences u v ps ≡ differences w x ps → (u q ≡ w q) × (v q ≡ x q) → differences u v (q ∷ ps) ≡ differences w x (q ∷ ps)
    go ih here = λ i. if same_value (here.0 i) (here.1 i) || is_some (command_at (ih i) q) then ih i else record { node = q; old = here.0 i; new = here.1 i } ∷ ih i

either : (a b : Bool) → (a || b) ≡ true → (a ≡ true) ⊎ (b ≡ true)
either true b e = inl refl
either false b e = inr e

-- two trees that hold the same at the named nodes have one transition
pub same_transition : (t u : Holding) (ns ms : List Change) → ((p : Node) → names ns p ≡ true → t p ≡ u p) → ((p : Node) → names ms p ≡ true → t p ≡ u p) → transition t ns ms ≡ transition u ns ms
same_transition t u ns ms first second = same_differences (after ns t) (after ms t) (after ns u) (after ms u) (nodes_of ns ++ nodes_of ms)
    (λ p e. let is = here p (either (names ns p) (names ms p) (sym (listed ns ms p) ∙ e)) in (ap (new_or (command_at ns p)) is, ap (new_or (command_at ms p)) is))
  where
    here : (p : Node) → (names ns p ≡ true) ⊎ (names ms p ≡ true) → t p ≡ u p
    here p (inl e) = first p e
    here p (inr e) = second p e

pub law_of_each_tree : (logs : List (List Change)) → AllChange logs → (m n : Store) → IsCommonTree m logs → IsCommonTree n logs → (log : List Change) → IsAmong log logs →
    (ms : List Change) → IsSubset ms (drawn_commands logs) → transition (at m) (net log) ms ≡ transition (at n) (net log) ms
law_of_each_tree logs change m n first second log among ms part = same_transition (at m) (at n) (net log) ms
    (same_held (net log) (net_in (at m) logs (common_holding logs change m first) log among))
    (same_held ms part)
  where
    -- common trees hold the same where a drawn set has a command
    same_held : (cs : List Change) → IsSubset cs (drawn_commands logs) → (p : Node) → names cs p ≡ true → at m p ≡ at n p
    same_held cs within p e = go (command_at cs p) refl (sym (named_at cs p) ∙ e)
      where
        go : (o : Option Change) → command_at cs p ≡ o → is_some o ≡ true → at m p ≡ at n p
        go None f e = cc (e)
        go (Some c) f e = old_held (at m) logs (common_holding logs change m first) cs within p c f ∙ sym (old_held (at n) logs (common_holding logs change n second) cs within p c f)

-- two mergers with the same command at each node make one transition
pub canonical_merger : (t : Holding) (ns ms ls : List Change) → ((p : Node) → command_at ms p ≡ command_at ls p) → canonical (transition t ns ms) ≡ canonical (transition t ns ls)
canonical_merger t ns ms ls same = canonical_same (transition t ns ms) (transition t ns ls) (one_each-transition t ns ms) (one_each-transition t ns ls)
    (λ p. transition_by t ns ms p ∙ ap (difference_by t p (command_at ns p)) (same p) ∙ sym (transition_by t ns ls p))
