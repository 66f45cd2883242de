-- The net commands that name a node, by their logs and places.
use Rattle.std.proofs.Common.{◌≡◌, ℕ, zero, suc, ◌≤◌, ◌+◌, ◌-◌, Bool, true, false, not, cond, List, [], ◌∷◌, Option, Some, None, refl, sym, ap, subst, ◌∙◌, arith}
use Rattle.std.specs.Prelude.{is_none, is_some, if◌then◌else◌}
use Rattle.std.specs.List.{slice_get}
use Rattle.sync_path.specs.Paths.{Node, same_path}
use Rattle.sync_path.proofs.CallerLemmas.{both, same_path_is, same_path_refl}
use Rattle.sync_command.specs.Changes.{Change}
use Rattle.sync_command.specs.Trees.{command_at, one_each}
use Rattle.sync_command.proofs.CallerLemmas.{command_at-node}
use Rattle.canon_set.specs.Logs.{net}
use Rattle.canon_set.proofs.CallerLemmas.{one_each-canonical}
use Rattle.refluent.specs.Joints.{Joined, IsJoint, net_sets}
use Rattle.refluent.specs.Picks.{place_in, picks_from, net_commands}
use Rattle.refluent.specs.declared.joint.Pick.{Pick}
use Rattle.refluent.proofs.CallerLemmas.{at_from_in}
use Rattle.pref_list.specs.Picks.{command_of}
use Rattle.pref_list.specs.Ranking.{set_from, set_of}
use Rattle.pref_list.proofs.Named.{in_from_place, one_each-net}

-- ---- one net set

one_each-sets : (logs : List (List Change)) (l : ℕ) → one_each (set_from (net_sets logs) l) ≡ true
one_each-sets [] l = refl
one_each-sets (log ∷ logs) zero = one_each-canonical (net log) (one_each-net log)
one_each-sets (log ∷ logs) (suc l) = one_each-sets logs l

-- a net set has one command per node
pub one_each-set : (j : Joined) → IsJoint j → (l : ℕ) → one_each (set_from j.sets l) ≡ true
one_each-set j is l = ap (λ sets. one_each (set_from sets l)) is.stands.sets ∙ one_each-sets is.logs l

-- what stands at the place of a node is the set's command there
at_place : (set : List Change) (p : Node) → slice_get set (place_in set p) ≡ command_at set p
at_place [] p = refl
at_place (c ∷ cs) p = go (same_path p c.node) (at_place cs p)
  where
    go : (b : Bool) → slice_get cs (place_in cs p) ≡ command_at cs p → slice_get (c ∷ cs) (cond (not b) (1 + place_in cs p) 0) ≡ (if b then Some c else command_at cs p)
    go true rest = refl
    go false rest = let next : 1 + place_in cs p ≡ suc (place_in cs p) = omega arith in ap (slice_get (c ∷ cs)) next ∙ rest

-- a command stands at the place of its node
place_of_node : (set : List Change) → one_each set ≡ true → (i : ℕ) (c : Change) → slice_get set i ≡ Some c → place_in set c.node ≡ i
place_of_node [] one i c e = cc (e)
place_of_node (d ∷ cs) one zero c e = ap (λ b. cond (not b) (1 + place_in cs c.node) 0) (ap (λ x. same_path c.node x.node) (same e) ∙ same_path_refl c.node)
  where
    same : Some d ≡ Some c → d ≡ c
    same e = cc
place_of_node (d ∷ cs) one (suc i) c e = go (same_path c.node d.node) (same_path_is c.node d.node) (place_of_node cs parts.1 i c e)
  where
    parts : (is_none (command_at cs d.node) ≡ true) × (one_each cs ≡ true)
    parts = both (is_none (command_at cs d.node)) (one_each cs) one

    here : command_at cs c.node ≡ Some c
    here = at_from_in cs parts.1 c (in_from_place cs i c e)

    go : (b : Bool) → (b ≡ true → c.node ≡ d.node) → place_in cs c.node ≡ i → cond (not b) (1 + place_in cs c.node) 0 ≡ suc i
    go true f rest =
        let none : is_none (Some c) ≡ true = ap is_none (sym here ∙ ap (command_at cs) (f refl)) ∙ parts.0 in
        cc (none)
    go false f rest = omega arith

-- ---- all net sets

-- the command of a pick, where the first set is that of the log with this number
abbrev command_from : ℕ → List (List Change) → Pick → Option Change
command_from n sets pick = slice_get (set_from sets (pick.log - n)) pick.place

-- the pick of a command that names the node
record IsFrom (n : ℕ) (sets : List (List Change)) (p : Node) (pick : Pick) : Type 0 where
  low : n ≤ pick.log
  command : Change
  is : command_from n sets pick ≡ Some command
  names : command.node ≡ p

from_next : (n : ℕ) (set : List Change) (sets : List (List Change)) (p : Node) (pick : Pick) → IsFrom (n + 1) sets p pick → IsFrom n (set ∷ sets) p pick
from_next n set sets p pick from = record {
  low = (let l = from.low in omega arith);
  command = from.command;
  is = ap (λ m. slice_get (set_from (set ∷ sets) m) pick.place) next ∙ from.is;
  names = from.names;
}
  where
    next : pick.log - n ≡ suc (pick.log - (n + 1))
    next = let l = from.low in omega arith

picks_name : (n : ℕ) (sets : List (List Change)) (p : Node) (k : ℕ) (pick : Pick) → slice_get (picks_from n sets p) k ≡ Some pick → IsFrom n sets p pick
picks_name n [] p k pick e = cc (e)
picks_name n (set ∷ sets) p k pick e = go (command_at set p) refl k e (λ k e. from_next n set sets p pick (picks_name (n + 1) sets p k pick e))
  where
    same : {a b : Pick} → Some a ≡ Some b → a ≡ b
    same e = cc

    first : (c : Change) → command_at set p ≡ Some c → IsFrom n (set ∷ sets) p (record { log = n; place = place_in set p })
    first c at = record {
      low = omega arith;
      command = c;
      is = ap (λ m. slice_get (set_from (set ∷ sets) m) (place_in set p)) (let z : n - n ≡ zero = omega arith in z) ∙ at_place set p ∙ at;
      names = sym (command_at-node set p c at);
    }

    go : (o : Option Change) → command_at set p ≡ o → (k : ℕ) → slice_get (if is_some o then record { log = n; place = place_in set p } ∷ picks_from (n + 1) sets p else picks_from (n + 1) sets p) k ≡ Some pick →
        ((k : ℕ) → slice_get (picks_from (n + 1) sets p) k ≡ Some pick → IsFrom n (set ∷ sets) p pick) → IsFrom n (set ∷ sets) p pick
    go None at k e rest = rest k e
    go (Some c) at zero e rest = subst (IsFrom n (set ∷ sets) p) (same e) (first c at)
    go (Some c) at (suc k) e rest = rest k e

-- a pick of a net command that names the node
pub record PicksNode (sets : List (List Change)) (p : Node) (pick : Pick) : Type 0 where
  pub command : Change
  pub is : command_of sets pick ≡ Some command
  pub names : command.node ≡ p

-- the picks at a node are of net commands that name it
pub net_picks_name : (sets : List (List Change)) (p : Node) (k : ℕ) (pick : Pick) → slice_get (net_commands sets p) k ≡ Some pick → PicksNode sets p pick
net_picks_name sets p k pick e = record { command = from.command; is = go pick.log from.low from.is; names = from.names }
  where
    from : IsFrom 1 sets p pick
    from = picks_name 1 sets p k pick e

    go : (log : ℕ) → 1 ≤ log → slice_get (set_from sets (log - 1)) pick.place ≡ Some from.command → slice_get (set_of sets log) pick.place ≡ Some from.command
    go zero low f = absurd (omega arith)
    go (suc l) low f = ap (λ m. slice_get (set_from sets m) pick.place) (let s : l ≡ suc l - 1 = omega arith in s) ∙ f

picks_have : (n : ℕ) (sets : List (List Change)) (l i : ℕ) (c : Change) → one_each (set_from sets l) ≡ true → slice_get (set_from sets l) i ≡ Some c →
    (k : ℕ) × (slice_get (picks_from n sets c.node) k ≡ Some (record { log = l + n; place = i }))
picks_have n [] l i c one e = cc (e)
picks_have n (set ∷ sets) zero i c one e = (0, ap (λ o. slice_get (if is_some o then record { log = n; place = place_in set c.node } ∷ picks_from (n + 1) sets c.node else picks_from (n + 1) sets c.node) 0) here ∙ ap Some (λ x. record { log = log_is x; place = place_of_node set one i c e x }))
  where
    here : command_at set c.node ≡ Some c
    here = at_from_in set one c (in_from_place set i c e)

    log_is : n ≡ 0 + n
    log_is = omega arith
picks_have n (set ∷ sets) (suc l) i c one e = go (is_some (command_at set c.node)) (picks_have (n + 1) sets l i c one e)
  where
    log_is : l + (n + 1) ≡ suc l + n
    log_is = omega arith

    go : (b : Bool) → (k : ℕ) × (slice_get (picks_from (n + 1) sets c.node) k ≡ Some (record { log = l + (n + 1); place = i })) →
        (k : ℕ) × (slice_get (if b then record { log = n; place = place_in set c.node } ∷ picks_from (n + 1) sets c.node else picks_from (n + 1) sets c.node) k ≡ Some (record { log = suc l + n; place = i }))
    go true rest = (suc rest.0, rest.1 ∙ ap Some (λ x. record { log = log_is x; place = i }))
    go false rest = (rest.0, rest.1 ∙ ap Some (λ x. record { log = log_is x; place = i }))

-- each net command is among the picks at its node
pub net_picks_have : (sets : List (List Change)) (l i : ℕ) (c : Change) → one_each (set_from sets l) ≡ true → slice_get (set_from sets l) i ≡ Some c →
    (k : ℕ) × (slice_get (net_commands sets c.node) k ≡ Some (record { log = l + 1; place = i }))
net_picks_have sets l i c one e = picks_have 1 sets l i c one e
