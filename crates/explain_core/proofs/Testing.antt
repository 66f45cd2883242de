-- The loops that test the nodes of a chain.
use Rattle.std.proofs.Common.{◌≡◌, ◌==◌, ℕ, zero, suc, ◌+◌, ◌<◌, ◌≤◌, Bool, true, false, not, ◌&&◌, ◌||◌, List, [], ◌∷◌, length, drop, get_or, Option, Some, None, Bor, refl, sym, ap, ◌∙◌, arith}
use Rattle.std.specs.Prelude.{is_none, is_some}
use Rattle.std.specs.Option.{option_copied}
use Rattle.std.proofs.lemmas.Bool.Decides.{nat_tests}
use Rattle.sync_path.specs.Paths.{Node, parent}
use Rattle.sync_command.specs.declared.values.Value.{Value}
use Rattle.sync_command.specs.declared.commands.Row.{Row}
use Rattle.sync_command.specs.Changes.{Change}
use Rattle.sync_command.specs.Trees.{Holding, command_at, one_each}
use Rattle.sync_path.specs.Children.{is_child}
use Rattle.refluent.specs.Joints.{Joined, path_at}
use Rattle.refluent.specs.Sets.{is_in}
use Rattle.pref_list.specs.Ranking.{set_from, set_of}
use Rattle.sync_path.proofs.CallerLemmas.{both, child_at, child_is}
use Rattle.pref_list.proofs.CallerLemmas.{path_within}
use Rattle.explain_core.specs.Chains.{denies, is_chain, is_denied, is_downward_chain, is_upward_chain, leads_down, leads_up}
use Rattle.explain_core.specs.FirstChains.{first_tree}
use Rattle.explain_core.specs.Reasons.{AreAt, Shows}
use Rattle.explain_core.specs.declared.reasons.Reason.{Reason}
use Rattle.explain_core.proofs.ChainLaws.{not_true}
use Rattle.explain_core.proofs.Listing.{has_is, has_not}
use Rattle.explain_core.proofs.Placing.{at_first, at_rest, path_below, some_is}

-- the node of a place among those of a chain
pub record IsNext (rows : List Row) (xs : List Node) (next index : ℕ) : Type 0 where
  pub node : Node
  pub here : path_at rows next ≡ Some node
  pub rest : drop index xs ≡ node ∷ drop (index + 1) xs

next_in : (rows : List Row) (via : List ℕ) (xs : List Node) → AreAt rows via xs → (index next : ℕ) → index < length via → next ≡ get_or via index 0 → (x : Node) × (path_at rows next ≡ Some x) × (drop index xs ≡ x ∷ drop (suc index) xs)
next_in rows [] xs e index next low is = absurd (omega arith)
next_in rows (i ∷ via) [] e index next low is = cc (e)
next_in rows (i ∷ via) (x ∷ xs) e zero next low is = (x, ap (path_at rows) is ∙ at_first rows i via x xs e, refl)
next_in rows (i ∷ via) (x ∷ xs) e (suc index) next low is = next_in rows via xs (at_rest rows i via x xs e) index next (omega arith) is

pub next_is : (rows : List Row) (via : List ℕ) (xs : List Node) → AreAt rows via xs → (index next : ℕ) → index < length via → next ≡ get_or via index 0 → IsNext rows xs next index
next_is rows via xs e index next low is =
    let r = next_in rows via xs e index next low is in
    record { node = r.0; here = r.1; rest = r.2 ∙ ap (λ m. r.0 ∷ drop m xs) (let n : suc index ≡ index + 1 = omega arith in n) }

-- as many nodes as places
pub as_many : (rows : List Row) (via : List ℕ) (xs : List Node) → AreAt rows via xs → length via ≡ length xs
as_many rows [] [] e = refl
as_many rows [] (x ∷ xs) e = cc (e)
as_many rows (i ∷ via) [] e = cc (e)
as_many rows (i ∷ via) (x ∷ xs) e = ap suc (as_many rows via xs (at_rest rows i via x xs e))

pub none_left : (rows : List Row) (via : List ℕ) (xs : List Node) → AreAt rows via xs → (index : ℕ) → length via ≤ index → drop index xs ≡ []
none_left rows via xs e index over = past xs index (let m : length via ≡ length xs = as_many rows via xs e in omega (arith, m))
  where
    past : (xs : List Node) (k : ℕ) → length xs ≤ k → drop k xs ≡ []
    past [] zero low = refl
    past [] (suc k) low = refl
    past (x ∷ xs) zero low = absurd (omega arith)
    past (x ∷ xs) (suc k) low = past xs k (omega arith)

-- ---- what leads up, or down

-- the nodes from the one before a place on lead up exactly where all do
pub record UpFrom (rows : List Row) (n : Node) (xs : List Node) (index before : ℕ) : Type 0 where
  pub node : Node
  pub here : path_at rows before ≡ Some node
  pub same : leads_up n xs ≡ leads_up node (drop index xs)

pub record DownFrom (rows : List Row) (n : Node) (xs : List Node) (index before : ℕ) : Type 0 where
  pub node : Node
  pub here : path_at rows before ≡ Some node
  pub same : leads_down n xs ≡ leads_down node (drop index xs)

module _ (rows : List Row) (n : Node) (via : List ℕ) (xs : List Node) (e : AreAt rows via xs) (index before next : ℕ) (low : index < length via) (is : next ≡ get_or via index 0) where
  module _ (u : UpFrom rows n xs index before) where
    up_next : IsNext rows xs next index
    up_next = next_is rows via xs e index next low is

    up_here : leads_up n xs ≡ (is_child u.node up_next.node && leads_up up_next.node (drop (index + 1) xs))
    up_here = u.same ∙ ap (leads_up u.node) up_next.rest

    pub up_stops : (b : Bool) → ((p q : Node) → path_at rows before ≡ Some p → path_at rows next ≡ Some q → b ≡ is_child p q) → b ≡ false → false ≡ leads_up n xs
    up_stops b child fails = sym (up_here ∙ ap (λ x. x && leads_up up_next.node (drop (index + 1) xs)) (sym (child u.node up_next.node u.here up_next.here) ∙ fails))

    pub up_goes : (b : Bool) → ((p q : Node) → path_at rows before ≡ Some p → path_at rows next ≡ Some q → b ≡ is_child p q) → b ≡ true → UpFrom rows n xs (index + 1) next
    up_goes b child so = record { node = up_next.node; here = up_next.here; same = up_here ∙ ap (λ x. x && leads_up up_next.node (drop (index + 1) xs)) (sym (child u.node up_next.node u.here up_next.here) ∙ so) }

  module _ (d : DownFrom rows n xs index before) where
    down_next : IsNext rows xs next index
    down_next = next_is rows via xs e index next low is

    down_here : leads_down n xs ≡ (is_child down_next.node d.node && leads_down down_next.node (drop (index + 1) xs))
    down_here = d.same ∙ ap (leads_down d.node) down_next.rest

    pub down_stops : (b : Bool) → ((p q : Node) → path_at rows next ≡ Some p → path_at rows before ≡ Some q → b ≡ is_child p q) → b ≡ false → false ≡ leads_down n xs
    down_stops b child fails = sym (down_here ∙ ap (λ x. x && leads_down down_next.node (drop (index + 1) xs)) (sym (child down_next.node d.node down_next.here d.here) ∙ fails))

    pub down_goes : (b : Bool) → ((p q : Node) → path_at rows next ≡ Some p → path_at rows before ≡ Some q → b ≡ is_child p q) → b ≡ true → DownFrom rows n xs (index + 1) next
    down_goes b child so = record { node = down_next.node; here = down_next.here; same = down_here ∙ ap (λ x. x && leads_down down_next.node (drop (index + 1) xs)) (sym (child down_next.node d.node down_next.here d.here) ∙ so) }

pub up_all : (rows : List Row) (n : Node) (via : List ℕ) (xs : List Node) → AreAt rows via xs → (index before : ℕ) → length via ≤ index → UpFrom rows n xs index before → true ≡ leads_up n xs
up_all rows n via xs e index before over u = sym (u.same ∙ ap (leads_up u.node) (none_left rows via xs e index over))

pub down_all : (rows : List Row) (n : Node) (via : List ℕ) (xs : List Node) → AreAt rows via xs → (index before : ℕ) → length via ≤ index → DownFrom rows n xs index before → true ≡ leads_down n xs
down_all rows n via xs e index before over d = sym (d.same ∙ ap (leads_down d.node) (none_left rows via xs e index over))

-- a child, by the test of its parent
pub child_test : (p q : Node) (b : Bool) → (b ≡ true → parent p ≡ Some q) → (parent p ≡ Some q → b ≡ true) → b ≡ is_child p q
child_test p q true is same = sym (child_at p q (is refl))
child_test p q false is same = go (is_child p q) refl
  where
    go : (b : Bool) → is_child p q ≡ b → false ≡ b
    go false e = refl
    go true e = let t : false ≡ true = same (child_is p q e) in cc (t)

-- ---- what is denied

module _ (rows : List Row) (demand : Value → Bool) (t : Holding) (ms : List Change) (via : List ℕ) (xs : List Node) (e : AreAt rows via xs) (index next : ℕ) (is : next ≡ get_or via index 0) (so : Bool) (same : so ≡ is_denied demand t ms (drop index xs)) where
  module _ (low : index < length via) where
    own : IsNext rows xs next index
    own = next_is rows via xs e index next low is

    pub denied_last : index + 1 ≡ length via → (b : Bool) → ((p : Node) → path_at rows next ≡ Some p → b ≡ denies demand (command_at ms p)) → b ≡ so
    denied_last end b last = last own.node own.here ∙ sym (same ∙ ap (is_denied demand t ms) (own.rest ∙ ap (λ l. own.node ∷ l) (none_left rows via xs e (index + 1) (omega arith))))

    module _ (more : index + 1 < length via) where
      after : IsNext rows xs (get_or via (index + 1) 0) (index + 1)
      after = next_is rows via xs e (index + 1) (get_or via (index + 1) 0) more refl

      here : so ≡ (is_none (command_at ms own.node) && (not (demand (t own.node)) && is_denied demand t ms (after.node ∷ drop (index + 1 + 1) xs)))
      here = same ∙ ap (is_denied demand t ms) (own.rest ∙ ap (λ l. own.node ∷ l) after.rest)

      regroup : (a b c : Bool) → (a && (b && c)) ≡ ((a && b) && c)
      regroup true b c = refl
      regroup false b c = refl

      pub denied_stops : (b : Bool) → ((p : Node) → path_at rows next ≡ Some p → b ≡ (is_none (command_at ms p) && not (demand (t p)))) → b ≡ false → false ≡ so
      denied_stops b passes fails = sym (here ∙ regroup (is_none (command_at ms own.node)) (not (demand (t own.node))) (is_denied demand t ms (after.node ∷ drop (index + 1 + 1) xs))
          ∙ ap (λ x. x && is_denied demand t ms (after.node ∷ drop (index + 1 + 1) xs)) (sym (passes own.node own.here) ∙ fails))

      pub denied_goes : (b : Bool) → ((p : Node) → path_at rows next ≡ Some p → b ≡ (is_none (command_at ms p) && not (demand (t p)))) → b ≡ true → so ≡ is_denied demand t ms (drop (index + 1) xs)
      denied_goes b passes yes_so = here ∙ regroup (is_none (command_at ms own.node)) (not (demand (t own.node))) (is_denied demand t ms (after.node ∷ drop (index + 1 + 1) xs))
          ∙ ap (λ x. x && is_denied demand t ms (after.node ∷ drop (index + 1 + 1) xs)) (sym (passes own.node own.here) ∙ yes_so) ∙ ap (is_denied demand t ms) (sym after.rest)

-- ---- the whole

-- what a look-up gives, where there is nothing
pub nothing_some : {A : Type 0} (o : Option (Bor A)) (x : Option A) → option_copied o ≡ x → is_some o ≡ false → x ≡ None
nothing_some None x e h = sym e
nothing_some (Some b) x e h = cc (h)

module _ (rows : List Row) (t : Holding) (ms : List Change) (c : Change) (one : one_each ms ≡ true) (via : List ℕ) (xs : List Node) (e : AreAt rows via xs) where
  pub chain_here : (own : Change) → command_at ms c.node ≡ Some own → (length via == 0) ≡ true → (b : Bool) → (b ≡ true → own ≡ c) → (own ≡ c → b ≡ true) → not b ≡ (not (is_in ms c) && is_chain t ms c xs)
  chain_here own at none b is same = go via xs e none
    where
      go : (via : List ℕ) (xs : List Node) → AreAt rows via xs → (length via == 0) ≡ true → not b ≡ (not (is_in ms c) && is_chain t ms c xs)
      go [] (x ∷ xs) e none = cc (e)
      go (i ∷ via) xs e none = absurd (some_place (length via) none)
        where
          some_place : (k : ℕ) → (suc k == 0) ≡ true → ⊥
          some_place k h = grind (arith, nat_tests)
      go [] [] e none = ap not (has_is ms c own one at b is same) ∙ sym (ap (λ o. not (is_in ms c) && is_some o) at ∙ and_true (not (is_in ms c)))
        where
          and_true : (b : Bool) → (b && true) ≡ b
          and_true true = refl
          and_true false = refl

  pub chain_along : command_at ms c.node ≡ None → (length via == 0) ≡ false → (b : Bool) → b ≡ (is_upward_chain t ms c xs || is_downward_chain t ms c xs) → b ≡ (not (is_in ms c) && is_chain t ms c xs)
  chain_along at some b way = go via xs e some way
    where
      go : (via : List ℕ) (xs : List Node) → AreAt rows via xs → (length via == 0) ≡ false → b ≡ (is_upward_chain t ms c xs || is_downward_chain t ms c xs) → b ≡ (not (is_in ms c) && is_chain t ms c xs)
      go [] xs e some way = cc (some)
      go (i ∷ via) [] e some way = cc (e)
      go (i ∷ via) (x ∷ xs) e some way =
          way ∙ sym (ap (λ h. not h && is_chain t ms c (x ∷ xs)) (sym (has_not ms c one at)) ∙ ap (λ o. is_none o && (is_upward_chain t ms c (x ∷ xs) || is_downward_chain t ms c (x ∷ xs))) at)

-- ---- what is shown

module _ (j : Joined) (ms : List Change) (r : Reason) where
  pub never_shown : (Shows j ms r → ⊥) → (false ≡ true → Shows j ms r) × (Shows j ms r → false ≡ true)
  never_shown never = (λ e. cc (e), λ s. absurd (never s))

  pub shown_log : Shows j ms r → (0 < r.log) × (r.log ≤ length j.sets)
  shown_log s = go r.log s.own
    where
      within : (sets : List (List Change)) (k : ℕ) → command_at (set_from sets k) s.node ≡ Some s.command → k < length sets
      within [] k e = cc (e)
      within (set ∷ sets) zero e = omega arith
      within (set ∷ sets) (suc k) e = let l = within sets k e in omega (arith, l)

      go : (l : ℕ) → command_at (set_of j.sets l) s.node ≡ Some s.command → (0 < l) × (l ≤ length j.sets)
      go zero e = cc (e)
      go (suc k) e = let l = within j.sets k e in (omega arith, omega (arith, l))

  pub shown_node : Shows j ms r → r.node < length j.nodes
  shown_node s = path_within j.nodes r.node s.node s.at

  places_within : (rows : List Row) (via : List ℕ) (xs : List Node) → AreAt rows via xs → (k : ℕ) → k < length via → get_or via k 0 < length rows
  places_within rows via xs e k low = let n = next_is rows via xs e k (get_or via k 0) low refl in path_within rows (get_or via k 0) n.node n.here

  pub shown_via : Shows j ms r → (k : ℕ) → k < length r.via → get_or r.via k 0 < length j.nodes
  shown_via s = places_within j.nodes r.via s.via s.along

-- the nodes of places that are a joint's
pub nodes_of : (rows : List Row) (via : List ℕ) → ((k : ℕ) → k < length via → get_or via k 0 < length rows) → (xs : List Node) × AreAt rows via xs
nodes_of rows [] low = ([], refl)
nodes_of rows (i ∷ via) low =
    let rest = nodes_of rows via (λ k l. low (suc k) (omega arith)) in
    let here = path_below rows i (low 0 (omega arith)) in
    (here.0 ∷ rest.0, λ k. here.1 k ∷ rest.1 k)

module _ (j : Joined) (ms : List Change) (r : Reason) (set : List Change) (own_set : set_of j.sets r.log ≡ set) (p : Node) (at : path_at j.nodes r.node ≡ Some p) where
  -- the command is the only one that can be meant
  meant : (s : Shows j ms r) → command_at set p ≡ Some s.command
  meant s = ap (λ q. command_at set q) (some_is (sym at ∙ s.at)) ∙ ap (λ l. command_at l s.node) (sym own_set) ∙ s.own

  pub never_there : command_at set p ≡ None → (false ≡ true → Shows j ms r) × (Shows j ms r → false ≡ true)
  never_there none = never_shown j ms r (λ s. let e = sym none ∙ meant s in cc (e))

  pub shown_is : (c : Change) → command_at set p ≡ Some c → ((k : ℕ) → k < length r.via → get_or r.via k 0 < length j.nodes) → (b : Bool) →
      ((xs : List Node) → AreAt j.nodes r.via xs → b ≡ (not (is_in ms c) && is_chain (first_tree j) ms c xs)) → (b ≡ true → Shows j ms r) × (Shows j ms r → b ≡ true)
  shown_is c there low b is = (shows_it, shown)
    where
      shows_it : b ≡ true → Shows j ms r
      shows_it e =
          let xs = nodes_of j.nodes r.via low in
          let parts = both (not (is_in ms c)) (is_chain (first_tree j) ms c xs.0) (sym (is xs.0 xs.1) ∙ e) in
          record { node = p; at = at; command = c; own = ap (λ l. command_at l p) own_set ∙ there; out = not_true (is_in ms c) parts.0; via = xs.0; along = xs.1; chain = parts.1 }

      shown : Shows j ms r → b ≡ true
      shown s =
          let same : s.command ≡ c = some_is (sym (meant s) ∙ there) in
          is s.via s.along ∙ ap (λ d. not (is_in ms d) && is_chain (first_tree j) ms d s.via) (sym same) ∙ ap (λ h. not h && is_chain (first_tree j) ms s.command s.via) s.out ∙ s.chain
