-- The net commands that name a node, searched for a command from the least log on.
use Rattle.std.proofs.Common.{◌≡◌, ℕ, zero, suc, ◌+◌, ◌-◌, ◌<◌, ◌≤◌, Bool, true, false, not, ◌||◌, cond, List, [], ◌∷◌, length, Option, Some, None, refl, sym, ap, subst, ◌∙◌, arith, ◌⊎◌, inl, inr}
use Rattle.std.specs.Prelude.{is_some, if◌then◌else◌}
use Rattle.std.specs.List.{slice_get}
use Rattle.std.proofs.lemmas.Option.{slice_get_within}
use Rattle.sync_path.specs.Paths.{Node, same_path}
use Rattle.sync_command.specs.Changes.{Change}
use Rattle.sync_command.specs.Trees.{command_at, one_each}
use Rattle.refluent.specs.Sets.{is_in}
use Rattle.refluent.specs.Drawn.{in_turn}
use Rattle.refluent.specs.Picks.{place_in, picks_from, net_commands}
use Rattle.refluent.specs.Joints.{Joined, IsJoint}
use Rattle.refluent.specs.declared.joint.Pick.{Pick}
use Rattle.refluent.proofs.CallerLemmas.{at_from_in, in_from_at, is_in-append}
use Rattle.pref_list.specs.Ranking.{set_from, set_of}
use Rattle.pref_list.specs.Picks.{command_of, first_with}
use Rattle.pref_list.specs.Numbers.{IsPick, IsNodeAt}
use Rattle.pref_list.proofs.CallerLemmas.{named, pick_is}
use Rattle.std.proofs.lemmas.Bool.{cases_lt}
use Rattle.merge_core.proofs.DrawnNodes.{standing}
use Rattle.merge_core.specs.Afterwards.{IsLeastLog}
use Rattle.merge_core.proofs.CheckLoops.{one_each-log}

some_is : {X : Type 0} {x y : X} → Some x ≡ Some y → x ≡ y
some_is e = cc

-- what stands at a node's place in a set is the set's command there
at_place : (set : List Change) (p : Node) → slice_get set (place_in set p) ≡ command_at set p
at_place [] p = refl
at_place (c ∷ cs) p = go (same_path p c.node) (at_place cs p)
  where
    go : (b : Bool) → slice_get cs (place_in cs p) ≡ command_at cs p → slice_get (c ∷ cs) (cond (not b) (1 + place_in cs p) 0) ≡ (if b then Some c else command_at cs p)
    go true rest = refl
    go false rest = let next : 1 + place_in cs p ≡ suc (place_in cs p) = omega arith in ap (slice_get (c ∷ cs)) next ∙ rest

-- the command of a pick, where the first set is that of the log with this number
abbrev pub command_from : ℕ → List (List Change) → Pick → Option Change
command_from n sets pick = slice_get (set_from sets (pick.log - n)) pick.place

from_next : (n : ℕ) (set : List Change) (sets : List (List Change)) (pick : Pick) → n + 1 ≤ pick.log → command_from n (set ∷ sets) pick ≡ command_from (n + 1) sets pick
from_next n set sets pick low = let next : pick.log - n ≡ suc (pick.log - (n + 1)) = omega arith in ap (λ m. slice_get (set_from (set ∷ sets) m) pick.place) next

picks_low : (n : ℕ) (sets : List (List Change)) (p : Node) (k : ℕ) (pick : Pick) → slice_get (picks_from n sets p) k ≡ Some pick → n ≤ pick.log
picks_low n [] p k pick e = cc (e)
picks_low n (set ∷ sets) p k pick e = go (is_some (command_at set p)) k e (λ k e. picks_low (n + 1) sets p k pick e)
  where
    go : (b : Bool) (k : ℕ) → slice_get (if b then record { log = n; place = place_in set p } ∷ picks_from (n + 1) sets p else picks_from (n + 1) sets p) k ≡ Some pick → ((k : ℕ) → slice_get (picks_from (n + 1) sets p) k ≡ Some pick → n + 1 ≤ pick.log) → n ≤ pick.log
    go true zero e rec = let same : n ≡ pick.log = ap (λ x. x.log) (some_is e) in omega (arith, same)
    go true (suc k) e rec = let l = rec k e in omega (arith, l)
    go false k e rec = let l = rec k e in omega (arith, l)

-- each of the picks is of a command
pick_there : (n : ℕ) (sets : List (List Change)) (p : Node) (k : ℕ) (pick : Pick) → slice_get (picks_from n sets p) k ≡ Some pick → (c : Change) × (command_from n sets pick ≡ Some c)
pick_there n [] p k pick e = cc (e)
pick_there n (set ∷ sets) p k pick e = go (command_at set p) refl k e (λ k e. pick_there (n + 1) sets p k pick e)
  where
    own : Pick
    own = record { log = n; place = place_in set p }

    own_is : (o : Option Change) → command_at set p ≡ o → command_from n (set ∷ sets) own ≡ o
    own_is o e = let z : n - n ≡ zero = omega arith in ap (λ m. slice_get (set_from (set ∷ sets) m) (place_in set p)) z ∙ at_place set p ∙ e

    go : (o : Option Change) → command_at set p ≡ o → (k : ℕ) → slice_get (if is_some o then own ∷ picks_from (n + 1) sets p else picks_from (n + 1) sets p) k ≡ Some pick
        → ((k : ℕ) → slice_get (picks_from (n + 1) sets p) k ≡ Some pick → (c : Change) × (command_from (n + 1) sets pick ≡ Some c)) → (c : Change) × (command_from n (set ∷ sets) pick ≡ Some c)
    go None at k e rec = let r = rec k e in (r.0, from_next n set sets pick (picks_low (n + 1) sets p k pick e) ∙ r.1)
    go (Some d) at zero e rec = (d, ap (command_from n (set ∷ sets)) (sym (some_is e)) ∙ own_is (Some d) at)
    go (Some d) at (suc k) e rec = let r = rec k e in (r.0, from_next n set sets pick (picks_low (n + 1) sets p k pick e) ∙ r.1)

-- none of the first so many picks is of the command
abbrev pub NoneOf : ℕ → List (List Change) → List Pick → Change → ℕ → Type 0
NoneOf n sets picks c end = (k : ℕ) (pick : Pick) → k < end → slice_get picks k ≡ Some pick → command_from n sets pick ≡ Some c → ⊥

abbrev OneEach : List (List Change) → Type 0
OneEach sets = (m : ℕ) → one_each (set_from sets m) ≡ true

-- the set has the command exactly where it is the set's command at its node
not_in : (set : List Change) (c : Change) → one_each set ≡ true → (command_at set c.node ≡ Some c → ⊥) → is_in set c ≡ false
not_in set c one other = go (is_in set c) refl
  where
    go : (b : Bool) → is_in set c ≡ b → b ≡ false
    go false e = refl
    go true e = absurd (other (at_from_in set one c e))

record IsFound (sets : List (List Change)) (c : Change) (m : ℕ) : Type 0 where
  there : is_in (in_turn sets) c ≡ true
  first : m ≡ first_with sets c

found_here : (set : List Change) (sets : List (List Change)) (c : Change) → is_in set c ≡ true → IsFound (set ∷ sets) c 0
found_here set sets c e = record { there = is_in-append set (in_turn sets) c ∙ ap (λ b. b || is_in (in_turn sets) c) e; first = sym (ap (λ b. if b then zero else suc (first_with sets c)) e) }

found_later : (set : List Change) (sets : List (List Change)) (c : Change) (m : ℕ) → is_in set c ≡ false → IsFound sets c m → IsFound (set ∷ sets) c (suc m)
found_later set sets c m e f = record { there = is_in-append set (in_turn sets) c ∙ ap (λ b. b || is_in (in_turn sets) c) e ∙ f.there; first = ap suc f.first ∙ sym (ap (λ b. if b then zero else suc (first_with sets c)) e) }

found_at : (n : ℕ) (sets : List (List Change)) (c : Change) → OneEach sets → (k : ℕ) (pick : Pick) → slice_get (picks_from n sets c.node) k ≡ Some pick → command_from n sets pick ≡ Some c → NoneOf n sets (picks_from n sets c.node) c k → IsFound sets c (pick.log - n)
found_at n [] c one k pick e is none = cc (e)
found_at n (set ∷ sets) c one k pick e is none = go (command_at set c.node) refl k e none (λ k e is none. found_at (n + 1) sets c (λ m. one (suc m)) k pick e is none)
  where
    own : Pick
    own = record { log = n; place = place_in set c.node }

    own_is : (o : Option Change) → command_at set c.node ≡ o → command_from n (set ∷ sets) own ≡ o
    own_is o e = let z : n - n ≡ zero = omega arith in ap (λ m. slice_get (set_from (set ∷ sets) m) (place_in set c.node)) z ∙ at_place set c.node ∙ e

    later : is_in set c ≡ false → n + 1 ≤ pick.log → IsFound sets c (pick.log - (n + 1)) → IsFound (set ∷ sets) c (pick.log - n)
    later out low f = let next : suc (pick.log - (n + 1)) ≡ pick.log - n = omega arith in subst (IsFound (set ∷ sets) c) next (found_later set sets c (pick.log - (n + 1)) out f)

    rest : (picks : List Pick) → ((k : ℕ) (x : Pick) → slice_get picks k ≡ Some x → n + 1 ≤ x.log) → (k : ℕ) → NoneOf n (set ∷ sets) picks c k → NoneOf (n + 1) sets picks c k
    rest picks low k none i x less e f = none i x less e (from_next n set sets x (low i x e) ∙ f)

    go : (o : Option Change) → command_at set c.node ≡ o → (k : ℕ) → slice_get (if is_some o then own ∷ picks_from (n + 1) sets c.node else picks_from (n + 1) sets c.node) k ≡ Some pick
        → NoneOf n (set ∷ sets) (if is_some o then own ∷ picks_from (n + 1) sets c.node else picks_from (n + 1) sets c.node) c k
        → ((k : ℕ) → slice_get (picks_from (n + 1) sets c.node) k ≡ Some pick → command_from (n + 1) sets pick ≡ Some c → NoneOf (n + 1) sets (picks_from (n + 1) sets c.node) c k → IsFound sets c (pick.log - (n + 1)))
        → IsFound (set ∷ sets) c (pick.log - n)
    go None at k e none rec =
        let low = picks_low (n + 1) sets c.node k pick e in
        let never : command_at set c.node ≡ Some c → ⊥ = λ h. cc (h, at) in
        later (not_in set c (one zero) never) low (rec k e (sym (from_next n set sets pick low) ∙ is) (rest (picks_from (n + 1) sets c.node) (picks_low (n + 1) sets c.node) k none))
    go (Some d) at zero e none rec =
        let same : own ≡ pick = some_is e in
        let here : command_at set c.node ≡ Some c = at ∙ sym (own_is (Some d) at) ∙ ap (command_from n (set ∷ sets)) same ∙ is in
        let z : 0 ≡ pick.log - n = let l : n ≡ pick.log = ap (λ x. x.log) same in omega (arith, l) in
        subst (IsFound (set ∷ sets) c) z (found_here set sets c (in_from_at set c.node c here))
    go (Some d) at (suc k) e none rec =
        let low = picks_low (n + 1) sets c.node k pick e in
        let never : command_at set c.node ≡ Some c → ⊥ = λ h. none zero own (omega arith) refl (own_is (Some c) h) in
        later (not_in set c (one zero) never) low
        (rec k e (sym (from_next n set sets pick low) ∙ is) (rest (picks_from (n + 1) sets c.node) (picks_low (n + 1) sets c.node) k (λ i x less f g. none (suc i) x (omega arith) f g)))

nowhere : (n : ℕ) (sets : List (List Change)) (c : Change) → OneEach sets → ((k : ℕ) (pick : Pick) → slice_get (picks_from n sets c.node) k ≡ Some pick → command_from n sets pick ≡ Some c → ⊥) → is_in (in_turn sets) c ≡ false
nowhere n [] c one none = refl
nowhere n (set ∷ sets) c one none = is_in-append set (in_turn sets) c ∙ go (command_at set c.node) refl none (λ none. nowhere (n + 1) sets c (λ m. one (suc m)) none)
  where
    own : Pick
    own = record { log = n; place = place_in set c.node }

    own_is : (o : Option Change) → command_at set c.node ≡ o → command_from n (set ∷ sets) own ≡ o
    own_is o e = let z : n - n ≡ zero = omega arith in ap (λ m. slice_get (set_from (set ∷ sets) m) (place_in set c.node)) z ∙ at_place set c.node ∙ e

    both_out : is_in set c ≡ false → is_in (in_turn sets) c ≡ false → (is_in set c || is_in (in_turn sets) c) ≡ false
    both_out e f = rw (e, f) refl

    go : (o : Option Change) → command_at set c.node ≡ o → ((k : ℕ) (pick : Pick) → slice_get (if is_some o then own ∷ picks_from (n + 1) sets c.node else picks_from (n + 1) sets c.node) k ≡ Some pick → command_from n (set ∷ sets) pick ≡ Some c → ⊥)
        → (((k : ℕ) (pick : Pick) → slice_get (picks_from (n + 1) sets c.node) k ≡ Some pick → command_from (n + 1) sets pick ≡ Some c → ⊥) → is_in (in_turn sets) c ≡ false)
        → (is_in set c || is_in (in_turn sets) c) ≡ false
    go None at none rec =
        let never : command_at set c.node ≡ Some c → ⊥ = λ h. cc (h, at) in
        both_out (not_in set c (one zero) never) (rec (λ k pick e f. none k pick e (from_next n set sets pick (picks_low (n + 1) sets c.node k pick e) ∙ f)))
    go (Some d) at none rec =
        let never : command_at set c.node ≡ Some c → ⊥ = λ h. none zero own refl (own_is (Some c) h) in
        both_out (not_in set c (one zero) never) (rec (λ k pick e f. none (suc k) pick e (from_next n set sets pick (picks_low (n + 1) sets c.node k pick e) ∙ f)))

-- ---- by the picks' own commands

of_from : (sets : List (List Change)) (pick : Pick) → 1 ≤ pick.log → command_of sets pick ≡ command_from 1 sets pick
of_from sets pick low = go pick.log low
  where
    go : (log : ℕ) → 1 ≤ log → slice_get (set_of sets log) pick.place ≡ slice_get (set_from sets (log - 1)) pick.place
    go zero low = absurd (omega arith)
    go (suc k) low = let same : k ≡ suc k - 1 = omega arith in ap (λ m. slice_get (set_from sets m) pick.place) same

module _ (j : Joined) (is : IsJoint j) (picks : List Pick) (c : Change) (net : picks ≡ net_commands j.sets c.node) where
  -- none of the first so many picks is of the command
  abbrev pub NoneBefore : ℕ → Type 0
  NoneBefore end = (k : ℕ) (pick : Pick) → k < end → slice_get picks k ≡ Some pick → command_of j.sets pick ≡ Some c → ⊥

  one_all : OneEach j.sets
  one_all m = one_each-log j is (suc m)

  at_net : (k : ℕ) (pick : Pick) → slice_get picks k ≡ Some pick → slice_get (net_commands j.sets c.node) k ≡ Some pick
  at_net k pick e = ap (λ l. slice_get l k) (sym net) ∙ e

  pub least_found : (k : ℕ) (pick : Pick) → slice_get picks k ≡ Some pick → command_of j.sets pick ≡ Some c → NoneBefore k → IsLeastLog j.sets c (Some pick.log)
  least_found k pick e here none = (found.there, (let l = low in let n : pick.log ≡ suc (pick.log - 1) = omega (arith, l) in n) ∙ ap suc found.first)
    where
      low : 1 ≤ pick.log
      low = picks_low 1 j.sets c.node k pick (at_net k pick e)

      found : IsFound j.sets c (pick.log - 1)
      found = found_at 1 j.sets c one_all k pick (at_net k pick e) (sym (of_from j.sets pick low) ∙ here)
          (λ i x less f g. none i x less (ap (λ l. slice_get l i) net ∙ f) (of_from j.sets x (picks_low 1 j.sets c.node i x f) ∙ g))

  pub least_nowhere : NoneBefore (length picks) → IsLeastLog j.sets c None
  least_nowhere none = nowhere 1 j.sets c one_all (λ k x f g.
      let e : slice_get picks k ≡ Some x = ap (λ l. slice_get l k) net ∙ f in
      none k x (slice_get_within picks k x e) e (of_from j.sets x (picks_low 1 j.sets c.node k x f) ∙ g))

  pub pick_at : (k : ℕ) (pick : Pick) → slice_get picks k ≡ Some pick → IsPick j.sets pick
  pick_at k pick e =
      let there = pick_there 1 j.sets c.node k pick (at_net k pick e) in
      pick_is j.sets pick there.0 (of_from j.sets pick (picks_low 1 j.sets c.node k pick (at_net k pick e)) ∙ there.1)

  -- the pick at a place is not of the command, where its command is another
  pub none_next : (end : ℕ) (x : Pick) (d : Change) (same : Bool) → slice_get picks end ≡ Some x → command_of j.sets x ≡ Some d → (d ≡ c → same ≡ true) → same ≡ false → NoneBefore end → NoneBefore (end + 1)
  none_next end x d same at is so not none k pick less e here = go (cases_lt k end)
    where
      go : (k < end) ⊎ (end ≤ k) → ⊥
      go (inl l) = none k pick l e here
      go (inr l) =
          let n : k ≡ end = omega arith in
          let one : x ≡ pick = some_is (sym at ∙ ap (slice_get picks) (sym n) ∙ e) in
          let t = so (some_is (sym is ∙ ap (command_of j.sets) one ∙ here)) in
          cc (t, not)

-- a command whose node is none of the joint's is of no log
pub none_without_node : (j : Joined) → IsJoint j → (c : Change) (p : Node) → p ≡ c.node → ((i : ℕ) → IsNodeAt j.nodes i p → ⊥) → is_in (in_turn j.sets) c ≡ false
none_without_node j is c p node none = go (is_in (in_turn j.sets) c) refl
  where
    go : (b : Bool) → is_in (in_turn j.sets) c ≡ b → b ≡ false
    go false e = refl
    go true e =
        let s = standing j.sets c e in
        let at = named j is s.set s.place c s.there in
        absurd (none at.0 (at.1 ∙ ap Some (sym node)))
