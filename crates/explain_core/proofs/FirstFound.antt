-- What is found by the nodes of a joint is the first chain.
use Rattle.std.proofs.Common.{◌≡◌, ℕ, Bool, true, false, not, ◌||◌, List, [], ◌∷◌, map, Option, Some, None, refl, sym, ap, subst, ◌∙◌, arith, ◌⊎◌, inl, inr}
use Rattle.std.specs.Prelude.{is_some, is_none, if◌then◌else◌}
use Rattle.std.specs.List.{list_any}
use Rattle.std.specs.Option.{option_map}
use Rattle.sync_path.specs.Paths.{Node, comes_before, is_under, same_path}
use Rattle.sync_command.specs.declared.values.Value.TheVariants.{Dir, Empty}
use Rattle.sync_command.specs.declared.commands.Row.{Row}
use Rattle.sync_command.specs.Values.{is_dir, is_empty}
use Rattle.sync_command.specs.Changes.{Change}
use Rattle.sync_command.specs.Trees.{Fits, command_at}
use Rattle.sync_command.specs.Maps.{at, value_or_empty}
use Rattle.sync_path.specs.Children.{has, is_child}
use Rattle.canon_set.specs.Logs.{names}
use Rattle.canon_set.specs.Leaving.{above}
use Rattle.refluent.specs.CommonTrees.{IsAmong, least_common_tree}
use Rattle.refluent.specs.Drawn.{drawn_commands}
use Rattle.refluent.specs.Joints.{Joined, StandsForAll, concerns, is_ascending, path_at, some_if}
use Rattle.refluent.specs.Sets.{IsSubset, is_in}
use Rattle.sync_path.proofs.CallerLemmas.{both, closed_up, same_path_refl, under_parent, under_up, child_is}
use Rattle.sync_command.proofs.CallerLemmas.{command_at-node}
use Rattle.refluent.proofs.CallerLemmas.{at_from_in, concerns_named, has_node, in_from_at, untouched_law}
use Rattle.explain_core.specs.Chains.{IsFirstChain, denies, is_chain, is_denied, is_downward_chain, is_node, is_upward_chain, last_from, leads_down, leads_up}
use Rattle.explain_core.specs.FirstChains.{first_chain, first_left_under, first_tree, is_left_under, way_to, way_up}
use Rattle.explain_core.specs.Reasons.{AreAt, place_of}
use Rattle.explain_core.proofs.ChainLaws.{IsAtOrUnder, and, found, not_both, is_or_not}
use Rattle.explain_core.proofs.ChainNodes.{IsTouched, drawn_touched, node_law}
use Rattle.explain_core.proofs.Deciding.{chain_down, chain_own, chain_up}
use Rattle.explain_core.proofs.Finding.{found_first, none_left}
use Rattle.explain_core.proofs.FirstChains.{down_parts, last_denied, last_low, nearest_first, up_or_down, up_parts}
use Rattle.explain_core.proofs.Leading.{LeadsTo, leads_to, up_is}
use Rattle.explain_core.proofs.Placing.{place_at}

-- ---- the tree

neither : (a b : Bool) → (a || b) ≡ false → (a ≡ false) × (b ≡ false)
neither a b e = grind arith

-- what no log concerns is named by none, and nothing under it is
none_named : (logs : List (List Change)) (p : Node) → concerns logs p ≡ false → (log : List Change) → IsAmong log logs → names log p ≡ false
none_named [] p e log among = absurd among
none_named (first ∷ logs) p e log among =
    let parts = neither (names first p || above first p) (concerns logs p) e in
    go parts.0 among (none_named logs p parts.1 log)
  where
    go : (names first p || above first p) ≡ false → (log ≡ first) ⊎ IsAmong log logs → (IsAmong log logs → names log p ≡ false) → names log p ≡ false
    go here (inl is) rec = ap (λ l. names l p) is ∙ (neither (names first p) (above first p) here).0
    go here (inr i) rec = rec i

none_above : (logs : List (List Change)) (p : Node) → concerns logs p ≡ false → list_any (λ log. above log p) logs ≡ false
none_above [] p e = refl
none_above (first ∷ logs) p e =
    let parts = neither (names first p || above first p) (concerns logs p) e in
    let here = neither (names first p) (above first p) parts.0 in
    ap (λ b. b || list_any (λ log. above log p) logs) here.1 ∙ none_above logs p parts.1

nothing_outside : (logs : List (List Change)) (p : Node) → concerns logs p ≡ false → least_common_tree logs p ≡ Empty
nothing_outside logs p e = untouched_law logs p (none_named logs p e) ∙ ap (λ b. if b then Dir [] else Empty) (none_above logs p e)

any_named : (logs : List (List Change)) (p : Node) → list_any (λ log. names log p) logs ≡ true → concerns logs p ≡ true
any_named [] p e = cc (e)
any_named (first ∷ logs) p e = go (is_or_not (names first p)) e (any_named logs p)
  where
    one : (a b c : Bool) → a ≡ true → ((a || b) || c) ≡ true
    one a b c e = grind arith

    more : (a c : Bool) → c ≡ true → (a || c) ≡ true
    more a c e = grind arith

    go : (names first p ≡ true) ⊎ (names first p ≡ false) → (names first p || list_any (λ log. names log p) logs) ≡ true → (list_any (λ log. names log p) logs ≡ true → concerns logs p ≡ true) → concerns (first ∷ logs) p ≡ true
    go (inl h) e rec = one (names first p) (above first p) (concerns logs p) h
    go (inr h) e rec = more (names first p || above first p) (concerns logs p) (rec (ap (λ b. b || list_any (λ log. names log p) logs) (sym h) ∙ e))

-- a node of a chain concerns the logs
pub node_concerns : (logs : List (List Change)) (p : Node) → is_node logs p ≡ true → concerns logs p ≡ true
node_concerns logs p e = go (is_or_not (concerns logs p))
  where
    go : (concerns logs p ≡ true) ⊎ (concerns logs p ≡ false) → concerns logs p ≡ true
    go (inl h) = h
    go (inr out) = any_named logs p (ap (λ v. not (is_empty v) || list_any (λ log. names log p) logs) (sym (nothing_outside logs p out)) ∙ e)

module _ (j : Joined) (logs : List (List Change)) (stands : StandsForAll j logs) where
  tree_at : (p : Node) → first_tree j p ≡ least_common_tree logs p
  tree_at p = ap value_or_empty (stands.nodes p) ∙ go (concerns logs p) refl
    where
      go : (b : Bool) → concerns logs p ≡ b → value_or_empty (some_if b (least_common_tree logs p)) ≡ least_common_tree logs p
      go true e = refl
      go false e = sym (nothing_outside logs p e)

  -- what a joint holds is the least common tree
  pub tree_is : first_tree j ≡ least_common_tree logs
  tree_is = λ i p. tree_at p i

  -- a node that concerns the logs has a place
  pub placed : (p : Node) → concerns logs p ≡ true → (i : ℕ) × (path_at j.nodes i ≡ Some p)
  placed p e = let n = has_node j logs stands p e in (n.0, ap (option_map (λ (r : Row). r.path)) n.1)

  pub drawn_placed : (c : Change) → is_in (drawn_commands logs) c ≡ true → (i : ℕ) × (path_at j.nodes i ≡ Some c.node)
  drawn_placed c there =
      let t : IsTouched logs c.node = drawn_touched logs c there in
      placed c.node (concerns_named j logs stands t.log t.among c.node (inl t.names_it))

  -- the nodes of a chain have places
  pub chain_placed : (ms : List Change) → IsSubset ms (drawn_commands logs) → (c : Change) → is_in (drawn_commands logs) c ≡ true → (via : List Node) → is_chain (least_common_tree logs) ms c via ≡ true → AreAt j.nodes (map (place_of j.nodes) via) via
  chain_placed ms part c there via chain = all via (λ z h. placed z (node_concerns logs z (node_law logs ms part c there via chain z h)))
    where
      here : (x : Node) (xs : List Node) → has (x ∷ xs) x ≡ true
      here x xs = ap (λ b. b || has xs x) (same_path_refl x)

      later : (x : Node) (xs : List Node) (z : Node) → has xs z ≡ true → has (x ∷ xs) z ≡ true
      later x xs z h = or_right (same_path z x) (has xs z) h
        where
          or_right : (a b : Bool) → b ≡ true → (a || b) ≡ true
          or_right a b e = grind arith

      all : (xs : List Node) → ((z : Node) → has xs z ≡ true → (i : ℕ) × (path_at j.nodes i ≡ Some z)) → AreAt j.nodes (map (place_of j.nodes) xs) xs
      all [] each = refl
      all (x ∷ xs) each =
          let own = each x (here x xs) in
          let at : path_at j.nodes (place_of j.nodes x) ≡ Some x = place_at j.nodes stands.order own.0 x own.1 in
          let rest = all xs (λ z h. each z (later x xs z h)) in
          λ k. at k ∷ rest k

-- ---- the first chain

-- what leads down ends under where it began
down_under : (n x : Node) (xs : List Node) → leads_down n (x ∷ xs) ≡ true → is_under (last_from x xs) n ≡ true
down_under n x xs down = go (last_low n x xs down)
  where
    top : is_under x n ≡ true
    top = under_parent n x (child_is x n (both (is_child x n) (leads_down x xs) down).0)

    go : IsAtOrUnder (last_from x xs) x → is_under (last_from x xs) n ≡ true
    go (inl e) = ap (λ z. is_under z n) e ∙ top
    go (inr under) = closed_up (λ z. is_under (last_from x xs) z) (λ r s e w. under_up (last_from x xs) s r w e) x n top under

module _ (j : Joined) (order : is_ascending j.nodes ≡ true) (ms : List Change) (fits : Fits (first_tree j) ms) (places : (d : Change) → is_in ms d ≡ true → (i : ℕ) × (path_at j.nodes i ≡ Some d.node)) (c : Change) where
  abbrev up : List Node
  up = way_up ms c.node

  none_own : command_at ms c.node ≡ None → (xs : List Node) → is_chain (first_tree j) ms c xs ≡ true → xs ≡ [] → ⊥
  none_own none [] h e = let s : is_some (command_at ms c.node) ≡ false = ap is_some none in cc (h, s)
  none_own none (x ∷ xs) h e = cc (e)

  no_empty_way : is_upward_chain (first_tree j) ms c [] ≡ true → ⊥
  no_empty_way h = let parts = both (not (is_empty c.new)) false h in cc (parts.1)

  -- an upward chain is the way up
  upward_is : (other : List Node) → is_upward_chain (first_tree j) ms c other ≡ true → other ≡ up
  upward_is [] h = absurd (no_empty_way h)
  upward_is (x ∷ xs) h = let parts = up_parts (first_tree j) ms fits c x xs h in up_is is_dir (first_tree j) ms c.node x xs parts.1 parts.2

  by_up : command_at ms c.node ≡ None → (xs : List Node) → up ≡ xs → is_upward_chain (first_tree j) ms c xs ≡ true → IsFirstChain (first_tree j) ms c xs
  by_up none [] is h = absurd (no_empty_way h)
  by_up none (x ∷ xs) is h = record {
    chain = and (is_none (command_at ms c.node)) (is_upward_chain (first_tree j) ms c (x ∷ xs) || is_downward_chain (first_tree j) ms c (x ∷ xs)) (ap is_none none) (left (is_upward_chain (first_tree j) ms c (x ∷ xs)) _ h);
    first = λ other g. inr (left (leads_up c.node (x ∷ xs)) _ (up_parts (first_tree j) ms fits c x xs h).1);
  }
    where
      left : (a b : Bool) → a ≡ true → (a || b) ≡ true
      left a b e = grind arith

  module _ (none : command_at ms c.node ≡ None) (not_up : is_upward_chain (first_tree j) ms c up ≡ false) where
    no_up : (other : List Node) → is_upward_chain (first_tree j) ms c other ≡ false
    no_up other = go (is_or_not (is_upward_chain (first_tree j) ms c other))
      where
        go : (is_upward_chain (first_tree j) ms c other ≡ true) ⊎ (is_upward_chain (first_tree j) ms c other ≡ false) → is_upward_chain (first_tree j) ms c other ≡ false
        go (inr h) = h
        go (inl h) = absurd (not_both (is_upward_chain (first_tree j) ms c other) h (ap (is_upward_chain (first_tree j) ms c) (upward_is other h) ∙ not_up))

    -- what leads down to the first node at which the set leaves something is the first chain
    by_down : (bare : is_dir c.new ≡ false) (p : Node) → first_left_under j.nodes ms c.node ≡ Some p → IsFirstChain (first_tree j) ms c (way_to c.node (Some p))
    by_down bare p e = subst (IsFirstChain (first_tree j) ms c) (sym to.is)
        (nearest_first (first_tree j) ms fits c d.0 own d.2 nearest none bare no_up to.first to.rest to.leads (to.ends ∙ node))
      where
        first : (is_left_under ms c.node p ≡ true) × ((q : Node) (k : ℕ) → path_at j.nodes k ≡ Some q → is_left_under ms c.node q ≡ true → comes_before q p ≡ false)
        first = found_first j.nodes order ms c.node p e

        parts : (is_under p c.node ≡ true) × (denies is_empty (command_at ms p) ≡ true)
        parts = both (is_under p c.node) (denies is_empty (command_at ms p)) first.0

        to : LeadsTo c.node p (way_to c.node (Some p))
        to = leads_to c.node p parts.0

        d : (d : Change) × (command_at ms p ≡ Some d) × (is_empty d.new ≡ false)
        d = found is_empty (command_at ms p) parts.1

        node : p ≡ d.0.node
        node = command_at-node ms p d.0 d.1

        own : command_at ms d.0.node ≡ Some d.0
        own = ap (command_at ms) (sym node) ∙ d.1

        nearest : (e : Change) → is_in ms e ≡ true → is_under e.node c.node ≡ true → is_empty e.new ≡ false → comes_before e.node d.0.node ≡ false
        nearest e there under full =
            let place = places e there in
            ap (comes_before e.node) (sym node)
            ∙ first.1 e.node place.0 place.1 (and (is_under e.node c.node) (denies is_empty (command_at ms e.node)) under (ap (denies is_empty) (at_from_in ms fits.one e there) ∙ ap not full))

    -- some chain leads down
    down_from : (x : Node) (xs : List Node) → is_chain (first_tree j) ms c (x ∷ xs) ≡ true → (is_dir c.new ≡ false) × ((p : Node) × (first_left_under j.nodes ms c.node ≡ Some p))
    down_from x xs h = choose (up_or_down (first_tree j) ms fits c x xs h)
      where
        choose : (is_upward_chain (first_tree j) ms c (x ∷ xs) ≡ true) ⊎ (is_downward_chain (first_tree j) ms c (x ∷ xs) ≡ true) → (is_dir c.new ≡ false) × ((p : Node) × (first_left_under j.nodes ms c.node ≡ Some p))
        choose (inl g) = absurd (not_both _ g (no_up (x ∷ xs)))
        choose (inr g) = (parts.0, some (first_left_under j.nodes ms c.node) refl)
          where
            parts : (is_dir c.new ≡ false) × (leads_down c.node (x ∷ xs) ≡ true) × (is_denied is_empty (first_tree j) ms (x ∷ xs) ≡ true)
            parts = down_parts (first_tree j) ms fits c x xs g

            last : (d : Change) × (command_at ms (last_from x xs) ≡ Some d) × (is_empty d.new ≡ false)
            last = last_denied (first_tree j) ms is_empty x xs parts.2

            left : is_left_under ms c.node (last_from x xs) ≡ true
            left = and (is_under (last_from x xs) c.node) (denies is_empty (command_at ms (last_from x xs))) (down_under c.node x xs parts.1) (ap (denies is_empty) last.1 ∙ ap not last.2)

            place : (i : ℕ) × (path_at j.nodes i ≡ Some (last_from x xs))
            place =
                let at = places last.0 (in_from_at ms (last_from x xs) last.0 last.1) in
                (at.0, at.1 ∙ ap Some (sym (command_at-node ms (last_from x xs) last.0 last.1)))

            some : (o : Option Node) → first_left_under j.nodes ms c.node ≡ o → (p : Node) × (first_left_under j.nodes ms c.node ≡ Some p)
            some (Some p) e = (p, e)
            some None e = absurd (not_both (is_left_under ms c.node (last_from x xs)) left (none_left j.nodes order ms c.node e (last_from x xs) place.0 place.1))

  -- where there is a chain, what is found is the first one
  pub first_is : (via : List Node) → is_chain (first_tree j) ms c via ≡ true → IsFirstChain (first_tree j) ms c (first_chain j ms c)
  first_is via chain = go (command_at ms c.node) refl
    where
      go : (o : Option Change) → command_at ms c.node ≡ o → IsFirstChain (first_tree j) ms c (first_chain j ms c)
      go (Some d) at = subst (IsFirstChain (first_tree j) ms c) (sym (chain_own j ms c d at)) (record { chain = ap is_some at; first = λ other h. inr refl })
      go None at = split (is_or_not (is_upward_chain (first_tree j) ms c up))
        where
          split : (is_upward_chain (first_tree j) ms c up ≡ true) ⊎ (is_upward_chain (first_tree j) ms c up ≡ false) → IsFirstChain (first_tree j) ms c (first_chain j ms c)
          split (inl so) = subst (IsFirstChain (first_tree j) ms c) (sym (chain_up j ms c at so)) (by_up at up refl so)
          split (inr not_so) = down via chain
            where
              down : (via : List Node) → is_chain (first_tree j) ms c via ≡ true → IsFirstChain (first_tree j) ms c (first_chain j ms c)
              down [] h = absurd (none_own at [] h refl)
              down (x ∷ xs) h =
                  let found = down_from at not_so x xs h in
                  subst (IsFirstChain (first_tree j) ms c) (sym (chain_down j ms c at not_so ∙ ap (way_to c.node) found.1.1)) (by_down at not_so found.0 found.1.0 found.1.1)
