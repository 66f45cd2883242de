-- From one group of clashes to the next.
use Rattle.std.proofs.Common.{◌≡◌, ℕ, suc, ◌+◌, ◌*◌, ◌-◌, ◌<◌, ◌≤◌, ◌==◌, Bool, true, List, [], ◌∷◌, ◌++◌, append_assoc, length, drop, Option, Some, None, refl, sym, ap, subst, ◌∙◌, arith, ◌⊎◌, inl, inr}
use Rattle.std.specs.List.{flat_map, slice_get}
use Rattle.std.specs.Option.{option_map}
use Rattle.std.proofs.lemmas.List.{drop_all}
use Rattle.std.proofs.lemmas.Bool.{cases_lt, eqb-true}
use Rattle.std.proofs.lemmas.Option.{slice_get_past, slice_get_within, slice_get-get_or}
use Rattle.std.proofs.Math.Nat.{mul-le-mul_left}
use Rattle.sync_path.specs.Paths.{Node}
use Rattle.sync_command.specs.declared.commands.Row.{Row}
use Rattle.sync_command.specs.declared.values.Value.TheVariants.{Empty}
use Rattle.refluent.specs.Families.{IsFirstChild}
use Rattle.refluent.specs.Joints.{Joined, path_at}
use Rattle.clash_list.specs.declared.clashes.Clash.TheVariants.{Same, Below}
use Rattle.clash_list.specs.declared.drawn.Kept.TheVariants.{Every, NoDirectory, Something}
use Rattle.clash_list.specs.DrawnAt.{logs_at, logs_in}
use Rattle.clash_list.specs.ClashLists.{Placed, products, pairs, children_from, clashes_at, clashes_from, placed_from}
use Rattle.clash_list.specs.Walks.{pairs_left, below_by, below_from, below_next, walk_left, IsChildOf, IsLater, step_of, steps_left}
use Rattle.clash_list.specs.declared.walk.Walk.{Walk}
use Rattle.clash_list.specs.WalkStates.{IsAt, steps_of}
use Rattle.clash_list.proofs.Families.{AreFrom, children_are, row_open}
use Rattle.clash_list.proofs.Turning.{pairs_first, products_first}

module _ (j : Joined) (node : ℕ) where
  -- nothing clashes below a node that each command leaves as a directory
  pub none_below : (o : Option Node) (from : ℕ) → below_from j node [] o from ≡ []
  none_below None from = refl
  none_below (Some p) from = go (children_from j.nodes p from)
    where
      go : (cs : List Placed) → flat_map (below_by j.sets node []) cs ≡ []
      go [] = refl
      go (c ∷ cs) = go cs

  -- the groups of the children from a place on, by the first of them
  pub below_found : (lefts : List ℕ) (p : Node) (from : ℕ) (found : Option ℕ) → path_at j.nodes node ≡ Some p → IsFirstChild j.nodes (Some p) from found → below_from j node lefts (path_at j.nodes node) from ≡ below_next j node lefts found
  below_found lefts p from found at first = ap (λ o. below_from j node lefts o from) at ∙ go found (children_are j.nodes p from found first)
    where
      go : (found : Option ℕ) → AreFrom j.nodes p (children_from j.nodes p from) found → below_from j node lefts (Some p) from ≡ below_next j node lefts found
      go None are = ap (flat_map (below_by j.sets node lefts)) are
      go (Some k) are = ap (flat_map (below_by j.sets node lefts)) are.3
          ∙ (λ i. products (Below node k) lefts (logs_in Something j.sets (sym are.1 i)) ++ below_from j node lefts (sym at i) (k + 1))

  pub child_left : (lefts rights : List ℕ) (k : ℕ) → rights ≡ logs_in Something j.sets (path_at j.nodes k) → walk_left j node (Some k) lefts rights 0 0 ≡ below_next j node lefts (Some k) ++ clashes_from j (node + 1)
  child_left lefts rights k are =
      ap (λ l. l ++ (below_from j node lefts (path_at j.nodes node) (k + 1) ++ clashes_from j (node + 1))) (products_first (Below node k) lefts rights ∙ ap (products (Below node k) lefts) are)
      ∙ sym (append_assoc (products (Below node k) lefts (logs_in Something j.sets (path_at j.nodes k))) (below_from j node lefts (path_at j.nodes node) (k + 1)) (clashes_from j (node + 1)))

  past_path : length j.nodes ≤ node → path_at j.nodes node ≡ None
  past_path high = ap (option_map (λ r. r.path)) (slice_get_past j.nodes node high)

  no_path : path_at j.nodes node ≡ None → length j.nodes ≤ node
  no_path e = cases (cases_lt node (length j.nodes))
    where
      cases : (node < length j.nodes) ⊎ (length j.nodes ≤ node) → length j.nodes ≤ node
      cases (inr high) = high
      cases (inl low) = none (sym (ap (option_map (λ r. r.path)) (slice_get-get_or j.nodes node blank low)) ∙ e)
        where
          blank : Row
          blank = record { path = []; value = Empty }

          none : {p : Node} → Some p ≡ None → length j.nodes ≤ node
          none e = cc (e)

  none_from : (n : ℕ) → length j.nodes ≤ n → clashes_from j n ≡ []
  none_from n high = ap (λ l. flat_map (clashes_at j) (placed_from n l)) (drop_all n j.nodes high)

  pub node_left : (lefts rights : List ℕ) → lefts ≡ logs_in Every j.sets (path_at j.nodes node) → walk_left j node None lefts rights 0 1 ≡ clashes_from j node
  node_left lefts rights are =
      ap (λ l. l ++ (below_from j node (logs_in NoDirectory j.sets (path_at j.nodes node)) (path_at j.nodes node) 0 ++ clashes_from j (node + 1))) (pairs_first (Same node) lefts 0 ∙ ap (pairs (Same node)) are)
      ∙ go (path_at j.nodes node) refl
    where
      go : (o : Option Node) → path_at j.nodes node ≡ o → pairs (Same node) (logs_in Every j.sets o) ++ (below_from j node (logs_in NoDirectory j.sets o) o 0 ++ clashes_from j (node + 1)) ≡ clashes_from j node
      go None e = none_from (node + 1) (let h = no_path e in omega arith) ∙ sym (none_from node (no_path e))
      go (Some p) e = sym (append_assoc (pairs (Same node) (logs_at Every j.sets p)) (below_from j node (logs_at NoDirectory j.sets p) (Some p) 0) (clashes_from j (node + 1)))
          ∙ ap (flat_map (clashes_at j)) (sym (row_open j.nodes node p e))

  pub past_logs : (lefts : List ℕ) → lefts ≡ logs_in Every j.sets (path_at j.nodes node) → length j.nodes ≤ node → lefts ≡ []
  past_logs lefts are high = are ∙ ap (logs_in Every j.sets) (past_path high)

  pub child_low : (k : ℕ) → IsChildOf j.nodes node k → length j.nodes ≤ node → ⊥
  child_low k of high = let e : Some of.up ≡ None = sym of.above ∙ past_path high in cc (e)

  -- past the last node nothing is to come
  pub over_left : (child : Option ℕ) (lefts rights : List ℕ) (left right : ℕ) → length j.nodes ≤ node → ((k : ℕ) → child ≡ Some k → IsChildOf j.nodes node k) → lefts ≡ [] → walk_left j node child lefts rights left right ≡ []
  over_left (Some k) lefts rights left right high below none = absurd (child_low k (below k refl) high)
  over_left None lefts rights left right high below none =
      (λ i. pairs_left (Same node) (gone left i) (drop right lefts) ++ (below_from j node (logs_in NoDirectory j.sets (past_path high i)) (past_path high i) 0 ++ none_from (node + 1) more i))
    where
      more : length j.nodes ≤ node + 1
      more = omega arith

      gone : (n : ℕ) → drop n lefts ≡ []
      gone n = drop_all n lefts (let e = ap length none in omega arith)

  -- what the first child found is
  pub later_child : (child : Option ℕ) (up : Node) (from k : ℕ) → path_at j.nodes node ≡ Some up → IsFirstChild j.nodes (Some up) from (Some k) → step_of child ≤ from → IsLater j node child k
  later_child child up from k above first after = record {
    of = record { up = up; path = first.2.0; above = above; at = first.2.1; under = first.2.2 };
    after = let low = first.0 in omega arith;
    low = first.1;
  }

  -- a later child leaves less to come
  pub fewer_children : (child : Option ℕ) (k : ℕ) → node < length j.nodes → IsLater j node child k → steps_left j node (Some k) < steps_left j node child
  fewer_children child k low later = less ((length j.nodes - node) * (length j.nodes + 2)) (step_of child) (at_least (length j.nodes - node) (length j.nodes + 2) (omega arith)) later.low later.after
    where
      less : (most step : ℕ) → length j.nodes + 2 ≤ most → k < length j.nodes → step ≤ k → most - (k + 1) < most - step
      less most step high under after = omega arith

      at_least : (a b : ℕ) → 1 ≤ a → b ≤ a * b
      at_least a b some = omega (arith, mul-le-mul_left b some)

  -- and so does a later node
  pub fewer_nodes : (child : Option ℕ) → node < length j.nodes → step_of child ≤ length j.nodes → steps_left j (node + 1) None < steps_left j node child
  fewer_nodes child low within = less (length j.nodes - node) (length j.nodes - (node + 1)) (length j.nodes + 2) (step_of child) (omega arith) (omega arith)
    where
      less : (more few width step : ℕ) → more ≡ few + 1 → step + 2 ≤ width → few * width - 0 < more * width - step
      less more few width step e wide = subst (λ m. few * width - 0 < m * width - step) (sym e) (omega arith)

pub path_low : (rows : List Row) (place : ℕ) (p : Node) → path_at rows place ≡ Some p → place < length rows
path_low rows place p e = go (slice_get rows place) refl e
  where
    go : (o : Option Row) → slice_get rows place ≡ o → option_map (λ r. r.path) o ≡ Some p → place < length rows
    go None f g = cc (g)
    go (Some row) f g = slice_get_within rows place row f

pub empty_list : (xs : List ℕ) (b : Bool) → b ≡ (length xs == 0) → b ≡ true → xs ≡ []
empty_list [] b e f = refl
empty_list (x ∷ xs) b e f = none (sym e ∙ f)
  where
    none : (suc (length xs) == 0) ≡ true → x ∷ xs ≡ []
    none e = absurd (differ (eqb-true (suc (length xs)) 0 e))
      where
        differ : suc (length xs) ≡ 0 → ⊥
        differ e = omega arith

-- ---- by the fields of walks

-- only the logs on the left changed, or nothing
abbrev pub KeepsPlace : Walk → Walk → Type 0
KeepsPlace w v = v ≡ record w { lefts = v.lefts }

module _ (w v u : Walk) (kept : KeepsPlace w v) (joint : u.joint ≡ v.joint) (low : w.node < length w.joint.now.nodes) where
  same_joint : u.joint ≡ w.joint
  same_joint = joint ∙ ap (λ x. x.joint) kept

  same_node : v.node ≡ w.node
  same_node = ap (λ x. x.node) kept

  pub at_child : (k : ℕ) → u.node ≡ v.node → u.child ≡ Some k → IsLater w.joint.now w.node w.child k → steps_of u < steps_of w
  at_child k node child later = subst (λ s. s < steps_of w) (sym same) (fewer_children w.joint.now w.node w.child k low later)
    where
      same : steps_of u ≡ steps_left w.joint.now w.node (Some k)
      same = λ i. steps_left (same_joint i).now ((node ∙ same_node) i) (child i)

  pub at_node : u.node ≡ v.node + 1 → u.child ≡ None → IsAt w → steps_of u < steps_of w
  at_node node child state = subst (λ s. s < steps_of w) (sym same) (fewer_nodes w.joint.now w.node w.child low (within w.child state.below))
    where
      same : steps_of u ≡ steps_left w.joint.now (w.node + 1) None
      same = λ i. steps_left (same_joint i).now ((node ∙ ap (λ n. n + 1) same_node) i) (child i)

      within : (o : Option ℕ) → ((k : ℕ) → o ≡ Some k → IsChildOf w.joint.now.nodes w.node k) → step_of o ≤ length w.joint.now.nodes
      within None below = omega arith
      within (Some k) below = let of = below k refl in let under : k < length w.joint.now.nodes = path_low w.joint.now.nodes k of.path of.at in omega arith
