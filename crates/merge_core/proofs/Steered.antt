-- The rules that steer name just the commands that they are made of.
use Rattle.std.proofs.Common.{◌≡◌, ℕ, zero, suc, Bool, true, false, ◌||◌, List, [], ◌∷◌, ◌++◌, Option, Some, None, refl, sym, ap, ◌∙◌, arith, ◌⊎◌, inl, inr}
use Rattle.std.specs.Prelude.{if◌then◌else◌, is_none}
use Rattle.std.specs.List.{filter}
use Rattle.sync_path.specs.Paths.{Node, same_path}
use Rattle.sync_command.specs.Changes.{Change, is_change}
use Rattle.sync_command.specs.Trees.{command_at, one_each}
use Rattle.canon_set.specs.Logs.{touches, net}
use Rattle.sync_path.proofs.CallerLemmas.{both, same_path_is, same_path_refl}
use Rattle.sync_command.proofs.CallerLemmas.{one_each-filter}
use Rattle.canon_set.proofs.CallerLemmas.{one_each-touches, one_each-canonical}
use Rattle.refluent.proofs.CallerLemmas.{at_from_in, in_from_at, is_in-append, is_in-without_repeats}
use Rattle.pref_list.proofs.CallerLemmas.{in_turn-nets}
use Rattle.refluent.specs.Sets.{is_in, IsSubset}
use Rattle.refluent.specs.Drawn.{in_turn, nets_in_turn, drawn_commands}
use Rattle.pref_list.specs.Ranking.{set_from, is_at, expansions}
use Rattle.pref_list.specs.Picks.{first_with}
use Rattle.refluent.specs.Joints.{net_sets}
use Rattle.merge_core.specs.Steering.{at_rules}

cases_or : (a b : Bool) → (a || b) ≡ true → (a ≡ true) ⊎ (b ≡ true)
cases_or true b e = inl refl
cases_or false b e = inr e

one_each-net : (log : List Change) → one_each (net log) ≡ true
one_each-net log = one_each-filter is_change (touches log) (one_each-touches log)

-- the first set that has a command has it
placed : (sets : List (List Change)) (c : Change) → is_in (in_turn sets) c ≡ true → is_in (set_from sets (first_with sets c)) c ≡ true
placed [] c e = cc (e)
placed (set ∷ sets) c e = go (placed sets c) (is_in set c) refl
  where
    rest : is_in set c ≡ false → is_in (in_turn sets) c ≡ true
    rest out = split (cases_or (is_in set c) (is_in (in_turn sets) c) (sym (is_in-append set (in_turn sets) c) ∙ e))
      where
        split : (is_in set c ≡ true) ⊎ (is_in (in_turn sets) c ≡ true) → is_in (in_turn sets) c ≡ true
        split (inl h) = cc (h, out)
        split (inr h) = h

    go : (is_in (in_turn sets) c ≡ true → is_in (set_from sets (first_with sets c)) c ≡ true) → (b : Bool) → is_in set c ≡ b → is_in (set_from (set ∷ sets) (if b then zero else suc (first_with sets c))) c ≡ true
    go ih true f = f
    go ih false f = ih (rest f)

one_each-nets : (logs : List (List Change)) (k : ℕ) → one_each (set_from (net_sets logs) k) ≡ true
one_each-nets [] k = refl
one_each-nets (log ∷ logs) zero = one_each-canonical (net log) (one_each-net log)
one_each-nets (log ∷ logs) (suc k) = one_each-nets logs k

none_at : (cs : List Change) (p : Node) → command_at cs p ≡ None → filter (is_at p) cs ≡ []
none_at [] p e = refl
none_at (d ∷ cs) p e = go (same_path p d.node) e (none_at cs p)
  where
    go : (b : Bool) → (if b then Some d else command_at cs p) ≡ None → (command_at cs p ≡ None → filter (is_at p) cs ≡ []) → (if b then d ∷ filter (is_at p) cs else filter (is_at p) cs) ≡ []
    go true e ih = cc (e)
    go false e ih = ih e

-- a set has at a node just the command there
alone_at : (cs : List Change) (p : Node) (c : Change) → one_each cs ≡ true → command_at cs p ≡ Some c → filter (is_at p) cs ≡ c ∷ []
alone_at [] p c one e = cc (e)
alone_at (d ∷ cs) p c one e = go (same_path p d.node) (same_path_is p d.node) e (alone_at cs p c parts.1)
  where
    parts : (is_none (command_at cs d.node) ≡ true) × (one_each cs ≡ true)
    parts = both (is_none (command_at cs d.node)) (one_each cs) one

    none_is : (o : Option Change) → is_none o ≡ true → o ≡ None
    none_is None e = refl
    none_is (Some x) e = cc (e)

    some_is : Some d ≡ Some c → d ≡ c
    some_is e = cc

    go : (b : Bool) → (b ≡ true → p ≡ d.node) → (if b then Some d else command_at cs p) ≡ Some c → (command_at cs p ≡ Some c → filter (is_at p) cs ≡ c ∷ []) → (if b then d ∷ filter (is_at p) cs else filter (is_at p) cs) ≡ c ∷ []
    go true is e ih = let rest : filter (is_at p) cs ≡ [] = none_at cs p (ap (command_at cs) (is refl) ∙ none_is (command_at cs d.node) parts.0) in λ i. some_is e i ∷ rest i
    go false is e ih = ih e

-- the rules made of drawn commands name just these
steered_sets : (sets : List (List Change)) → ((k : ℕ) → one_each (set_from sets k) ≡ true) → (cs : List Change) → ((c : Change) → is_in cs c ≡ true → is_in (in_turn sets) c ≡ true) → expansions sets (at_rules sets cs) ≡ cs
steered_sets sets once [] part = refl
steered_sets sets once (c ∷ cs) part = ap (λ l. l ++ expansions sets (at_rules sets cs)) here ∙ ap (λ l. c ∷ l) (steered_sets sets once cs (λ x i. part x (later x i)))
  where
    later : (x : Change) → is_in cs x ≡ true → is_in (c ∷ cs) x ≡ true
    later x i = grind (arith, i)

    own : is_in (c ∷ cs) c ≡ true
    own = in_from_at (c ∷ cs) c.node c (ap (λ b. if b then Some c else command_at cs c.node) (same_path_refl c.node))

    set : List Change
    set = set_from sets (first_with sets c)

    here : filter (is_at c.node) set ≡ c ∷ []
    here = alone_at set c.node c (once (first_with sets c)) (at_from_in set (once (first_with sets c)) c (placed sets c (part c own)))

pub steered : (logs : List (List Change)) (cs : List Change) → IsSubset cs (drawn_commands logs) → expansions (net_sets logs) (at_rules (net_sets logs) cs) ≡ cs
steered logs cs part = steered_sets (net_sets logs) (one_each-nets logs) cs (λ c i. ap (λ l. is_in l c) (in_turn-nets logs) ∙ sym (is_in-without_repeats (nets_in_turn logs) c) ∙ part c i)
