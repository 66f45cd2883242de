-- The list of the reasons that are still to come.
use Rattle.std.proofs.Common.{◌≡◌, ℕ, zero, suc, ◌+◌, ◌≤◌, Bool, true, false, not, cond, List, [], ◌∷◌, length, map, drop, Option, Some, None, refl, sym, ap, subst, ◌∙◌, arith}
use Rattle.std.specs.List.{slice_get}
use Rattle.std.specs.Option.{option_map}
use Rattle.std.proofs.lemmas.Option.{slice_get-map}
use Rattle.sync_path.specs.Paths.{Node}
use Rattle.sync_command.specs.Changes.{Change}
use Rattle.sync_command.specs.Trees.{command_at, one_each}
use Rattle.refluent.specs.Drawn.{drawn_of}
use Rattle.refluent.specs.Joints.{IsJoint, Joined, path_at}
use Rattle.refluent.specs.Sets.{is_in}
use Rattle.refluent.specs.declared.joint.Pick.{Pick}
use Rattle.refluent.proofs.CallerLemmas.{at_from_in, in_from_at}
use Rattle.pref_list.specs.Numbers.{IsNodeAt, IsPick}
use Rattle.pref_list.specs.Orders.{IsRankingOf}
use Rattle.pref_list.specs.Picks.{command_of, log_of}
use Rattle.pref_list.specs.Ranking.{set_of}
use Rattle.pref_list.proofs.CallerLemmas.{named, pick_is}
use Rattle.explain_core.specs.Chains.{without}
use Rattle.explain_core.specs.FirstChains.{first_chain}
use Rattle.explain_core.specs.Reasons.{AreAt, place_of, reason_of}
use Rattle.explain_core.specs.declared.reasons.Reason.{Reason}
use Rattle.explain_core.proofs.Placing.{place_is, places_are, some_is}

-- ---- a list from one of its elements on

drop_next : {X : Type 0} (xs : List X) (k : ℕ) (x : X) → slice_get xs k ≡ Some x → drop k xs ≡ x ∷ drop (k + 1) xs
drop_next xs k x e = go xs k e ∙ ap (λ m. x ∷ drop m xs) (let n : suc k ≡ k + 1 = omega arith in n)
  where
    go : {X : Type 0} {x : X} (xs : List X) (k : ℕ) → slice_get xs k ≡ Some x → drop k xs ≡ x ∷ drop (suc k) xs
    go [] k e = cc (e)
    go (y ∷ xs) zero e = ap (λ z. z ∷ xs) (some_is e)
    go (y ∷ xs) (suc k) e = go xs k e

drop_past : {X : Type 0} (xs : List X) (k : ℕ) → length xs ≤ k → drop k xs ≡ []
drop_past [] zero low = refl
drop_past [] (suc k) low = refl
drop_past (x ∷ xs) zero low = absurd (omega arith)
drop_past (x ∷ xs) (suc k) low = drop_past xs k (omega arith)

module _ (ms cs : List Change) (k : ℕ) where
  without_next : (c : Change) → slice_get cs k ≡ Some c → without ms (drop k cs) ≡ cond (not (is_in ms c)) (c ∷ without ms (drop (k + 1) cs)) (without ms (drop (k + 1) cs))
  without_next c e = ap (without ms) (drop_next cs k c e)

  pub passed_over : (c : Change) → slice_get cs k ≡ Some c → is_in ms c ≡ true → without ms (drop k cs) ≡ without ms (drop (k + 1) cs)
  passed_over c e there = without_next c e ∙ ap (λ b. cond (not b) (c ∷ without ms (drop (k + 1) cs)) (without ms (drop (k + 1) cs))) there

  pub comes_next : (c : Change) → slice_get cs k ≡ Some c → is_in ms c ≡ false → without ms (drop k cs) ≡ c ∷ without ms (drop (k + 1) cs)
  comes_next c e out = without_next c e ∙ ap (λ b. cond (not b) (c ∷ without ms (drop (k + 1) cs)) (without ms (drop (k + 1) cs))) out

  pub none_next : length cs ≤ k → without ms (drop k cs) ≡ []
  none_next low = ap (without ms) (drop_past cs k low)

-- ---- the drawn commands by their picks

length-map_of : {X Y : Type 0} (f : X → Y) (xs : List X) → length (map f xs) ≡ length xs
length-map_of f [] = refl
length-map_of f (x ∷ xs) = ap suc (length-map_of f xs)

module _ (sets : List (List Change)) (picks : List Pick) (is : IsRankingOf sets [] picks) where
  pub many_drawn : length picks ≡ length (drawn_of sets)
  many_drawn = sym (length-map_of (command_of sets) picks) ∙ ap length is.commands ∙ length-map_of Some (drawn_of sets)

  -- the command of a pick, which is drawn
  pub drawn_at : (k : ℕ) (pick : Pick) → slice_get picks k ≡ Some pick → (c : Change) × (command_of sets pick ≡ Some c) × (slice_get (drawn_of sets) k ≡ Some c)
  drawn_at k pick e = go (slice_get (drawn_of sets) k) refl
    where
      both_ways : option_map (command_of sets) (slice_get picks k) ≡ option_map Some (slice_get (drawn_of sets) k)
      both_ways = sym (slice_get-map (command_of sets) picks k) ∙ ap (λ l. slice_get l k) is.commands ∙ slice_get-map Some (drawn_of sets) k

      own : Some (command_of sets pick) ≡ option_map Some (slice_get (drawn_of sets) k)
      own = ap (option_map (command_of sets)) (sym e) ∙ both_ways

      go : (o : Option Change) → slice_get (drawn_of sets) k ≡ o → (c : Change) × (command_of sets pick ≡ Some c) × (slice_get (drawn_of sets) k ≡ Some c)
      go None f = let h : Some (command_of sets pick) ≡ None = own ∙ ap (option_map Some) f in cc (h)
      go (Some c) f = (c, some_is (own ∙ ap (option_map Some) f), f)

  pub drawn_pick : (k : ℕ) (pick : Pick) → slice_get picks k ≡ Some pick → IsPick sets pick
  drawn_pick k pick e = let d = drawn_at k pick e in pick_is sets pick d.0 d.1

  pub drawn_is : (k : ℕ) (pick : Pick) (c : Change) → slice_get picks k ≡ Some pick → command_of sets pick ≡ Some c → slice_get (drawn_of sets) k ≡ Some c
  drawn_is k pick c e f = let d = drawn_at k pick e in d.2 ∙ sym d.1 ∙ f

  pub drawn_log : (k : ℕ) (pick : Pick) (c : Change) → slice_get picks k ≡ Some pick → command_of sets pick ≡ Some c → pick.log ≡ log_of sets c
  drawn_log k pick c e f =
      let l = is.least k pick e in
      l.2 ∙ ap (log_of sets) (some_is (sym l.1 ∙ f))

-- ---- what a set has

pub has_is : (ms : List Change) (c : Change) (own : Change) → one_each ms ≡ true → command_at ms c.node ≡ Some own → (b : Bool) → (b ≡ true → own ≡ c) → (own ≡ c → b ≡ true) → b ≡ is_in ms c
has_is ms c own one at true is same = sym (in_from_at ms c.node c (at ∙ ap Some (is refl)))
has_is ms c own one at false is same = go (is_in ms c) refl
  where
    go : (b : Bool) → is_in ms c ≡ b → false ≡ b
    go false e = refl
    go true e = let t : false ≡ true = same (some_is (sym at ∙ at_from_in ms one c e)) in cc (t)

pub has_not : (ms : List Change) (c : Change) → one_each ms ≡ true → command_at ms c.node ≡ None → false ≡ is_in ms c
has_not ms c one at = go (is_in ms c) refl
  where
    go : (b : Bool) → is_in ms c ≡ b → false ≡ b
    go false e = refl
    go true e = let t = sym at ∙ at_from_in ms one c e in cc (t)

-- a net command's node has a place
pub has_place : (j : Joined) → IsJoint j → (pick : Pick) (c : Change) (p : Node) → command_of j.sets pick ≡ Some c → p ≡ c.node → ((i : ℕ) → IsNodeAt j.nodes i p → ⊥) → ⊥
has_place j is pick c p at node none = go pick.log at
  where
    go : (l : ℕ) → slice_get (set_of j.sets l) pick.place ≡ Some c → ⊥
    go zero e = cc (e)
    go (suc k) e = let n = named j is k pick.place c e in none n.0 (subst (λ q. IsNodeAt j.nodes n.0 q) (sym node) n.1)

-- the reason of a command, by its parts
pub reason_is : (j : Joined) → IsJoint j → (ms : List Change) (c : Change) (r : Reason) → r.log ≡ log_of j.sets c → path_at j.nodes r.node ≡ Some c.node → AreAt j.nodes r.via (first_chain j ms c) → r ≡ reason_of j ms c
reason_is j is ms c r log node via =
    let place : r.node ≡ place_of j.nodes c.node = sym (place_is j.nodes is.stands.order r.node c.node node) in
    let places : r.via ≡ map (place_of j.nodes) (first_chain j ms c) = places_are j.nodes is.stands.order r.via (first_chain j ms c) via in
    λ k. record { log = log k; node = place k; via = places k }

-- the reason of the next command that is left out comes first
pub next_reason : {X : Type 0} (f : Change → X) (ms cs : List Change) (from k : ℕ) → without ms (drop k cs) ≡ without ms (drop from cs) → (c : Change) → slice_get cs k ≡ Some c → is_in ms c ≡ false → (d : Change) → slice_get cs k ≡ Some d → (x : X) → x ≡ f d →
    map f (without ms (drop from cs)) ≡ x ∷ map f (without ms (drop (k + 1) cs))
next_reason f ms cs from k rest c there out d same x is =
    let one : c ≡ d = some_is (sym there ∙ same) in
    ap (map f) (sym rest ∙ comes_next ms cs k c there out) ∙ ap (λ y. y ∷ map f (without ms (drop (k + 1) cs))) (ap f one ∙ sym is)
