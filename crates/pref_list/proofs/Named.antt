-- The net commands of joined logs name nodes of the joint.
use Rattle.std.proofs.Common.{◌≡◌, ℕ, zero, suc, ◌+◌, ◌-◌, ◌<◌, Bool, true, false, ◌||◌, List, [], ◌∷◌, Some, refl, sym, ap, ◌∙◌, arith}
use Rattle.std.specs.Prelude.{if◌then◌else◌, is_some}
use Rattle.std.specs.List.{slice_get}
use Rattle.sync_path.specs.Paths.{Node, same_path}
use Rattle.sync_command.specs.declared.values.Value.{Value}
use Rattle.sync_command.specs.declared.commands.Row.{Row}
use Rattle.sync_command.specs.Changes.{Change, is_change, same_change}
use Rattle.sync_command.specs.Trees.{command_at, one_each}
use Rattle.canon_set.specs.Logs.{names, touches, net}
use Rattle.canon_set.specs.Leaving.{above}
use Rattle.canon_set.specs.Sets.{canonical}
use Rattle.sync_path.proofs.CallerLemmas.{same_path_is}
use Rattle.sync_command.proofs.CallerLemmas.{one_each-filter, command_at-filter, passing, passing-is}
use Rattle.canon_set.proofs.CallerLemmas.{one_each-touches, is_some-touches}
use Rattle.refluent.proofs.CallerLemmas.{same_change_is, same_change_at, at_from_in, is_in-canonical}
use Rattle.refluent.specs.Sets.{is_in}
use Rattle.refluent.specs.Joints.{Joined, IsJoint, concerns, value_in, some_if, net_sets}
use Rattle.refluent.specs.CommonTrees.{least_common_tree}
use Rattle.pref_list.specs.Ranking.{set_from, set_of}
use Rattle.pref_list.specs.Numbers.{IsNodeAt}

right : (a b : Bool) → b ≡ true → (a || b) ≡ true
right a b e = grind arith

left : (a b : Bool) → a ≡ true → (a || b) ≡ true
left a b e = grind arith

-- what stands at a place is in the set
pub in_from_place : (cs : List Change) (i : ℕ) (c : Change) → slice_get cs i ≡ Some c → is_in cs c ≡ true
in_from_place [] i c e = cc (e)
in_from_place (d ∷ cs) zero c e = left (same_change c d) (is_in cs c) (same_change_at c d (sym (same e)))
  where
    same : Some d ≡ Some c → d ≡ c
    same e = cc
in_from_place (d ∷ cs) (suc i) c e = right (same_change c d) (is_in cs c) (in_from_place cs i c e)

pub one_each-net : (log : List Change) → one_each (net log) ≡ true
one_each-net log = one_each-filter is_change (touches log) (one_each-touches log)

net_names : (log : List Change) (c : Change) → is_in (canonical (net log)) c ≡ true → names log c.node ≡ true
net_names log c e =
    let i : is_in (net log) c ≡ true = sym (is_in-canonical (net log) (one_each-net log) c) ∙ e in
    let t : command_at (net log) c.node ≡ Some c = at_from_in (net log) (one_each-net log) c i in
    let p : passing is_change (command_at (touches log) c.node) ≡ Some c = sym (command_at-filter is_change (touches log) (one_each-touches log) c.node) ∙ t in
    sym (is_some-touches log c.node) ∙ ap is_some (passing-is is_change (command_at (touches log) c.node) c p)

concerned : (logs : List (List Change)) (l i : ℕ) (c : Change) → slice_get (set_from (net_sets logs) l) i ≡ Some c → concerns logs c.node ≡ true
concerned [] l i c e = cc (e)
concerned (log ∷ logs) zero i c e = left (names log c.node || above log c.node) (concerns logs c.node) (left (names log c.node) (above log c.node) (net_names log c (in_from_place (canonical (net log)) i c e)))
concerned (log ∷ logs) (suc l) i c e = right (names log c.node || above log c.node) (concerns logs c.node) (concerned logs l i c e)

placed : (rows : List Row) (p : Node) (v : Value) → value_in rows p ≡ Some v → (place : ℕ) × IsNodeAt rows place p
placed [] p v e = cc (e)
placed (row ∷ rows) p v e = go (same_path p row.path) (same_path_is p row.path) e (placed rows p v)
  where
    go : (b : Bool) → (b ≡ true → p ≡ row.path) → (if b then Some row.value else value_in rows p) ≡ Some v → (value_in rows p ≡ Some v → (place : ℕ) × IsNodeAt rows place p) → (place : ℕ) × IsNodeAt (row ∷ rows) place p
    go true f e rest = (0, ap Some (sym (f refl)))
    go false f e rest = let r = rest e in (suc r.0, r.1)

-- each net command names a node of the joint
pub named : (j : Joined) → IsJoint j → (l i : ℕ) (c : Change) → slice_get (set_from j.sets l) i ≡ Some c → (place : ℕ) × IsNodeAt j.nodes place c.node
named j is l i c e = placed j.nodes c.node (least_common_tree is.logs c.node)
    (is.stands.nodes c.node ∙ ap (λ b. some_if b (least_common_tree is.logs c.node)) (concerned is.logs l i c (ap (λ s. slice_get (set_from s l) i) (sym is.stands.sets) ∙ e)))

pub set_at : (sets : List (List Change)) (k : ℕ) (set : List Change) → slice_get sets k ≡ Some set → set_from sets k ≡ set
set_at [] k set e = cc (e)
set_at (s ∷ sets) zero set e = same e
  where
    same : Some s ≡ Some set → s ≡ set
    same e = cc
set_at (s ∷ sets) (suc k) set e = set_at sets k set e

pub set_at_number : (sets : List (List Change)) (log : ℕ) (set : List Change) → 0 < log → slice_get sets (log - 1) ≡ Some set → set_of sets log ≡ set
set_at_number sets zero set low e = absurd (omega arith)
set_at_number sets (suc k) set low e = set_at sets k set (ap (slice_get sets) (let n : k ≡ suc k - 1 = omega arith in n) ∙ e)

pub set_of_next : (sets : List (List Change)) (l : ℕ) → set_of sets (l + 1) ≡ set_from sets l
set_of_next sets l = ap (set_of sets) (let n : l + 1 ≡ suc l = omega arith in n)

-- what is in a set stands at a place of it
pub place_from_in : (cs : List Change) (c : Change) → is_in cs c ≡ true → (i : ℕ) × (slice_get cs i ≡ Some c)
place_from_in [] c e = cc (e)
place_from_in (d ∷ cs) c e = go (same_change c d) (same_change_is c d) e (place_from_in cs c)
  where
    go : (b : Bool) → (b ≡ true → c ≡ d) → (b || is_in cs c) ≡ true → (is_in cs c ≡ true → (i : ℕ) × (slice_get cs i ≡ Some c)) → (i : ℕ) × (slice_get (d ∷ cs) i ≡ Some c)
    go true f e rest = (0, ap Some (sym (f refl)))
    go false f e rest = let r = rest e in (suc r.0, r.1)
