-- Composing: lists in the admissible order, logs one after another, and the net set of a list that names each node once.
use Rattle.std.proofs.Common.{◌≡◌, Bool, true, false, ◌&&◌, List, [], ◌∷◌, ◌++◌, Option, Some, None, refl, sym, ap, subst, ◌∙◌, arith, map}
use mathlib.Core.Path.{fun_ext}
use Rattle.std.specs.Prelude.{if◌then◌else◌, is_none}
use Rattle.std.specs.List.{filter, list_all}
use Rattle.sync_path.specs.Paths.{Node, same_path}
use Rattle.sync_path.proofs.CallerLemmas.{both}
use Rattle.sync_command.specs.Changes.{Change, goes_before, is_canonical, is_change}
use Rattle.sync_command.specs.Trees.{Holding, IsTree, Takes, command_at, is_apart, new_or, after, one_each, put, result_of, Fits}
use Rattle.sync_command.specs.Maps.{Store, at, stored, IsTreeMap}
use Rattle.sync_command.proofs.CallerLemmas.{at-stored, command_at-apart, command_at-filter, fits_takes, passing, result_once, same_fits, tree-result_of}
use Rattle.canon_set.specs.Logs.{all_change, touches, net}
use Rattle.canon_set.specs.Sets.{canonical, put_in}
use Rattle.canon_set.proofs.CallerLemmas.{command_at-canonical, is_canonical-canonical, net_fits, net_law, one_each-canonical, one_each-touches}
use Rattle.refluent.specs.Drawn.{in_turn}
use Rattle.refluent.specs.Joints.{net_sets}
use Rattle.rounds.specs.Compositions.{chain_list, composition}
use Rattle.rounds.proofs.Undoing.{one_net, one_set}

-- ---- lists in the admissible order

pub canonical_stays : (cs : List Change) → is_canonical cs ≡ true → canonical cs ≡ cs
canonical_stays [] order = refl
canonical_stays (c ∷ cs) order = let parts = both (list_all (goes_before c) cs) (is_canonical cs) order in ap (put_in c) (canonical_stays cs parts.1) ∙ first cs parts.0
  where
    first : (ds : List Change) → list_all (goes_before c) ds ≡ true → put_in c ds ≡ c ∷ ds
    first [] all = refl
    first (d ∷ ds) all = ap (λ b. if b then c ∷ (d ∷ ds) else d ∷ put_in c ds) (both (goes_before c d) (list_all (goes_before c) ds) all).0

-- ---- logs one after another

takes_both : (t : Holding) (cs ds : List Change) → Takes t (cs ++ ds) → Takes t cs × Takes (result_of t cs) ds
takes_both t [] ds takes = (tt, takes)
takes_both t (c ∷ cs) ds takes = let rest = takes_both (put t c.node c.new) cs ds takes.1 in ((takes.0, rest.0), rest.1)

takes_joined : (t : Holding) (cs ds : List Change) → Takes t cs → Takes (result_of t cs) ds → Takes t (cs ++ ds)
takes_joined t [] ds first rest = rest
takes_joined t (c ∷ cs) ds first rest = (first.0, takes_joined (put t c.node c.new) cs ds first.1 rest)

result_joined : (t : Holding) (cs ds : List Change) → result_of t (cs ++ ds) ≡ result_of (result_of t cs) ds
result_joined t [] ds = refl
result_joined t (c ∷ cs) ds = result_joined (put t c.node c.new) cs ds

nets_follow : (t : Holding) → IsTree t → (logs : List (List Change)) → Takes t (in_turn logs) → Takes t (chain_list (map net logs)) × (result_of t (chain_list (map net logs)) ≡ result_of t (in_turn logs))
nets_follow t tree [] takes = (tt, refl)
nets_follow t tree (log ∷ logs) takes =
    let parts = takes_both t log (in_turn logs) takes in
    let done = net_fits t log tree parts.0 in
    let rest = nets_follow (result_of t log) (tree-result_of t log tree parts.0) logs parts.1 in
    let set : Fits t (canonical (net log)) = same_fits t (net log) (canonical (net log)) (one_set log) (λ p. sym (command_at-canonical (net log) (one_net log) p)) done.0 in
    let same : result_of t (canonical (net log)) ≡ result_of t log = fun_ext (λ p. result_once t (canonical (net log)) (one_set log) p ∙ ap (λ o. new_or o (t p)) (command_at-canonical (net log) (one_net log) p) ∙ done.1 p) in (
      takes_joined t (canonical (net log)) (chain_list (map net logs)) (fits_takes t (canonical (net log)) tree (is_canonical-canonical (net log) (one_net log)) set) (subst (λ u. Takes u (chain_list (map net logs))) (sym same) rest.0),
      result_joined t (canonical (net log)) (chain_list (map net logs)) ∙ ap (λ u. result_of u (chain_list (map net logs))) same ∙ rest.1 ∙ sym (result_joined t log (in_turn logs)),
    )

-- the sets that are composed may stand in the admissible order already
pub chain_of_nets : (logs : List (List Change)) → chain_list (net_sets logs) ≡ chain_list (map net logs)
chain_of_nets [] = refl
chain_of_nets (log ∷ logs) = λ i. canonical_stays (canonical (net log)) (is_canonical-canonical (net log) (one_net log)) i ++ chain_of_nets logs i

pub follow_law : (m : Store) → IsTreeMap m → (logs : List (List Change)) → Takes (at m) (in_turn logs) →
    Takes (at m) (chain_list (map net logs)) × (at (stored m (chain_list (map net logs))) ≡ at (stored m (in_turn logs)))
follow_law m tree logs takes = let done = nets_follow (at m) tree.tree logs takes in (done.0, at-stored m (chain_list (map net logs)) ∙ done.1 ∙ sym (at-stored m (in_turn logs)))

-- ---- composing

pub composition_law : (m : Store) → IsTreeMap m → (sets : List (List Change)) → Takes (at m) (chain_list sets) →
    Fits (at m) (composition sets) × (after (composition sets) (at m) ≡ at (stored m (chain_list sets)))
composition_law m tree sets takes = let done = net_law m (chain_list sets) tree takes in (done.0, sym done.1)

-- ---- the net set of a list that names each node once

first_passes : (f : Change → Bool) (o : Option Change) → passing f (passing f o) ≡ passing f o
first_passes f None = refl
first_passes f (Some c) = go (f c) refl
  where
    go : (b : Bool) → f c ≡ b → passing f (if b then Some c else None) ≡ (if b then Some c else None)
    go true e = ap (λ b. if b then Some c else None) e
    go false e = refl

-- each command of a net set changes its node's value
pub net_changes : (log : List Change) (p : Node) → passing is_change (command_at (net log) p) ≡ command_at (net log) p
net_changes log p = ap (passing is_change) at ∙ first_passes is_change (command_at (touches log) p) ∙ sym at
  where
    at : command_at (net log) p ≡ passing is_change (command_at (touches log) p)
    at = command_at-filter is_change (touches log) (one_each-touches log) p

-- a list that names each node once is its own list of touches, node by node
touches_once : (cs : List Change) → one_each cs ≡ true → (p : Node) → command_at (touches cs) p ≡ command_at cs p
touches_once [] one p = refl
touches_once (c ∷ cs) one p = go (touches_once cs parts.1) (same_path p c.node) refl
  where
    none_is : (o : Option Change) → is_none o ≡ true → o ≡ None
    none_is None e = refl
    none_is (Some d) e = cc (e)

    parts : (is_none (command_at cs c.node) ≡ true) × (one_each cs ≡ true)
    parts = both (is_none (command_at cs c.node)) (one_each cs) one

    go : ((q : Node) → command_at (touches cs) q ≡ command_at cs q) → (b : Bool) → same_path p c.node ≡ b → (if b then Some (record { node = c.node; old = c.old; new = new_or (command_at (touches cs) c.node) c.new }) else command_at (filter (is_apart c.node) (touches cs)) p) ≡ if b then Some c else command_at cs p
    go ih true e = let new : new_or (command_at (touches cs) c.node) c.new ≡ c.new = ap (λ o. new_or o c.new) (ih c.node ∙ none_is (command_at cs c.node) parts.0) in λ i. Some (record { node = c.node; old = c.old; new = new i })
    go ih false e = command_at-apart c.node (touches cs) p ∙ ap (λ b. if b then None else command_at (touches cs) p) e ∙ ih p

pub net_canonical : (log : List Change) (p : Node) → command_at (net (canonical (net log))) p ≡ command_at (net log) p
net_canonical log p = command_at-filter is_change (touches (canonical (net log))) (one_each-touches (canonical (net log))) p
    ∙ ap (passing is_change) (touches_once (canonical (net log)) (one_each-canonical (net log) (one_net log)) p ∙ command_at-canonical (net log) (one_net log) p)
    ∙ net_changes log p

list_all-put_in : (f : Change → Bool) (c : Change) (ds : List Change) → list_all f (put_in c ds) ≡ (f c && list_all f ds)
list_all-put_in f c [] = refl
list_all-put_in f c (d ∷ ds) = step (list_all-put_in f c ds)
  where
    step : list_all f (put_in c ds) ≡ (f c && list_all f ds) → list_all f (put_in c (d ∷ ds)) ≡ (f c && list_all f (d ∷ ds))
    step ih = grind arith

list_all-canonical : (f : Change → Bool) (cs : List Change) → list_all f (canonical cs) ≡ list_all f cs
list_all-canonical f [] = refl
list_all-canonical f (c ∷ cs) = list_all-put_in f c (canonical cs) ∙ ap (λ b. f c && b) (list_all-canonical f cs)

list_all-filter : (f : Change → Bool) (cs : List Change) → list_all f (filter f cs) ≡ true
list_all-filter f [] = refl
list_all-filter f (c ∷ cs) = go (list_all-filter f cs) (f c) refl
  where
    go : list_all f (filter f cs) ≡ true → (b : Bool) → f c ≡ b → list_all f (if b then c ∷ filter f cs else filter f cs) ≡ true
    go ih true e = ap (λ b. b && list_all f (filter f cs)) e ∙ ih
    go ih false e = ih

pub all_change-canonical : (log : List Change) → all_change (canonical (net log)) ≡ true
all_change-canonical log = list_all-canonical is_change (net log) ∙ list_all-filter is_change (touches log)
